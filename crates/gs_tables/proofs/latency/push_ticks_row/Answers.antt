use Rattle.std.proofs.Common.{◌∙◌, ap, ◌++◌, List, ℕ}
use Rattle.std.proofs.lemmas.Result.{on_ok_weaker}
use Rattle.gs_tables.specs.Latency.{stays_words}
use Rattle.gs_tables.proofs.Tickless.{no_ticks, ticks_row}
use Rattle.gs_tables.proofs.latency.push_ticks_row.Goals as goal

pub returns : goal.returns
returns c =
    let account = c.args.account.now in
    on_ok_weaker c.push_str.result
    (λ last. last ∙ (ap (λ (o : List ℕ). o ++ no_ticks) (c.in_ok-push_stays.ensures ∙ ap (λ (o : List ℕ). o ++ stays_words account.tally.sums) c.in_ok-push_who.ensures) ∙ ticks_row c.args.out.now account (c.is_tickless.ensures c.if-not-is_tickless.false)))
    c.push_str.ensures.added
