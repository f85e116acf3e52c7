use Rattle.std.proofs.Common.{◌≡◌, ◌∙◌, sym, subst, Bool, List, true}
use Rattle.std.proofs.lemmas.Result.{on_ok_weaker}
use Rattle.gs_kernel.specs.declared.landing.Landing.{Landing}
use Rattle.gs_tallies.specs.Accounts.{created_in}
use Rattle.gs_turns.specs.declared.stance.Known.{Known}
use Rattle.gs_turns.specs.declared.turn.Turn.{Turn}
use Rattle.gs_tables.specs.Rows.{TellsAll}
use Rattle.gs_tables.specs.Tables.{listed_in}
use Rattle.gs_tables.proofs.rows.push_listed.Goals as goal

pub returns : goal.returns
returns c =
    let n = c.args.notation in
    let each = c.in_ok-each.each in
    let old = c.args.rows.now in
    let new = c.push_each.new.rows in
    let threads : List Known = c.args.told.now.threads.items in
    let turns : List Turn = c.args.told.now.turns.items in
    let known : each.known ≡ threads = c.in_ok-each.ensures.known ∙ c.deref.ensures.value in
    let turned : each.turns ≡ turns = c.in_ok-each.ensures.turns ∙ c.deref-2.ensures.value in
    let yes : c.args.listed ≡ true = c.if-not-listed.false in
    on_ok_weaker c.push_each.result
    (λ all.
    subst (λ (listed : Bool). TellsAll n (record { known = threads; turns = turns; landings = c.args.landings.now }) (listed_in listed threads) old new) (sym yes)
    (subst (λ (ls : List Landing). TellsAll n (record { known = threads; turns = turns; landings = ls }) (created_in threads) old new) c.in_ok-each.ensures.landings
    (subst (λ (ts : List Turn). TellsAll n (record { known = threads; turns = ts; landings = each.landings }) (created_in threads) old new) turned
    (subst (λ (ks : List Known). TellsAll n (record { known = ks; turns = each.turns; landings = each.landings }) (created_in ks) old new) known all))))
    c.push_each.ensures
