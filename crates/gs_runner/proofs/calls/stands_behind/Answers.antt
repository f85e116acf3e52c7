use Rattle.std.proofs.Common.{List, length, ap, sym, subst, ◌∙◌}
use Rattle.std.specs.Prelude.{◌↔◌}
use Rattle.std.specs.List.{list_all}
use Rattle.std.specs.List.Sorted.{IsNonDecreasingBy}
use Rattle.std.proofs.lemmas.List.Elements.{All-drop}
use Rattle.gs_runner.specs.declared.kept.Kept.{Kept}
use Rattle.gs_runner.specs.Holds.{Stands, answers_command}
use Rattle.gs_runner.specs.Kept.{AllWithin, IsWithin, calls_kept, kept_at}
use Rattle.gs_runner.proofs.Places.{answered_past, rises_past, stands_past}
use Rattle.gs_runner.proofs.calls.stands_behind.Goals as goal

pub stands-requires-clause-within : goal.stands-requires-clause-within
stands-requires-clause-within c =
    let n = length c.args.journal.now.entries in
    let m = length c.args.others.now in
    subst (λ (l : List Kept). AllWithin n m l) (sym c.split_at.ensures.back) (All-drop (IsWithin n m) c.args.before c.args.kept.now c.requires.within)

pub stands-requires-clause-answered : goal.stands-requires-clause-answered
stands-requires-clause-answered c =
    ap (λ (l : List Kept). list_all answers_command (calls_kept c.args.journal.now.entries c.args.others.now l)) c.split_at.ensures.back
    ∙ answered_past c.args.journal.now.entries c.args.others.now c.args.kept.now c.args.before c.requires.answered

pub stands-requires-clause-order : goal.stands-requires-clause-order
stands-requires-clause-order c = subst (λ (l : List Kept). IsNonDecreasingBy (kept_at c.args.others.now) l) (sym c.split_at.ensures.back) (rises_past c.args.others.now c.args.kept.now c.args.before c.requires.order)

pub returns : goal.returns
returns c =
    let past : Stands (calls_kept c.args.journal.now.entries c.args.others.now c.split_at.result.1.now) c.args.command.now c.args.receipt.now ↔ Stands (calls_kept c.args.journal.now.entries c.args.others.now c.args.kept.now) c.args.command.now c.args.receipt.now =
    subst (λ (l : List Kept). Stands (calls_kept c.args.journal.now.entries c.args.others.now l) c.args.command.now c.args.receipt.now ↔ Stands (calls_kept c.args.journal.now.entries c.args.others.now c.args.kept.now) c.args.command.now c.args.receipt.now) (sym c.split_at.ensures.back)
    (stands_past c.args.journal.now.entries c.args.others.now c.args.kept.now c.args.before c.args.command.now c.args.receipt.now c.requires.before) in
    ((λ yes. past.0 (c.stands.ensures.0 yes)), (λ t. c.stands.ensures.1 (past.1 t)))
