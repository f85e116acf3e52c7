use Rattle.std.proofs.Common.{◌≡◌, ℕ, ◌+◌, List, [], ◌∷◌, ◌++◌, take, ap, subst, sym, ◌∙◌, append_assoc, arith}
use Rattle.std.proofs.lemmas.List.{take_more}
use Rattle.gs_runner.specs.declared.command.Command.{Command}
use Rattle.gs_runner.specs.declared.call.Receipt.{Receipt}
use Rattle.gs_runner.specs.Receipts.{AreReceipts, IsReceipt}
use Rattle.gs_runner.specs.Slips.{StandsIn, receipts_in}
use Rattle.gs_runner.proofs.Receiving.{receipts_more}
use Rattle.gs_runner.proofs.Slipping.{all_split}
use Rattle.gs_runner.proofs.lists.serve_all.Goals as goal

pub loop-command-preserved : goal.loop-command-preserved
loop-command-preserved g c =
    let n : ℕ = g.L.Site.parcels in
    let i = c.loop-command.command-index in
    let all = c.args.commands.now in
    let command = c.command-item.result in
    let r = c.serve-receipt.result in
    let so = c.loop-command.invariant in
    let more = so.1.more in
    let made = c.serve-receipt.ensures in
    let e = c.deref_mut.result.now in
    let one : IsReceipt n command r = record { settings = e.settings; before = e.history; given = e.given; after = c.serve-receipt.new.self.history; legal = made.legal; at = made.at; entries = made.entries } in
    let next : take (i + 1) all ≡ take i all ++ command ∷ [] = take_more all i command c.loop-command-test.true ∙ ap (λ (x : Command). take i all ++ x ∷ []) (sym c.command-item.is) in (
      omega (arith, so.0, c.push.ensures.room),
      record {
        more = more ++ r ∷ [];
        receipts = subst (λ (l : List Command). AreReceipts n l (more ++ r ∷ [])) (sym next) (receipts_more n (take i all) more command r so.1.receipts one);
        shown = λ h stands.
            let both = all_split (StandsIn h) more r stands in
            c.push.ensures.shown h both.1 ∙ ap (λ (l : List Receipt). l ++ r ∷ []) (so.1.shown h both.0) ∙ append_assoc (receipts_in h c.args.receipts.now) more (r ∷ []);
      },
    )
