use Rattle.std.proofs.Common.{◌≡◌, ◌∙◌, ◌-◌, ◌++◌, ap, ℕ, List, codes, replicate}
use Rattle.std.specs.Prelude.{decimal}
use Rattle.std.proofs.lemmas.Result.{on_ok_weaker}
use Rattle.gs_tables.proofs.IdleRows.{both_lines, in_entries, in_ticks, places}
use Rattle.gs_tables.proofs.idle.push_lines.Goals as goal

pub returns : goal.returns
returns c =
    let t = c.args.tid in
    let column : List ℕ = c.class_column-class.result.now in
    let blanks : List ℕ = c.blanks-blanks.result.now in
    let before : blanks ≡ places t = c.blanks-blanks.ensures.value ∙ ap (λ (n : ℕ). codes " " ++ replicate (6 - n) 32) c.digits.ensures in
    let first = c.in_ok-push_between.ensures.added ∙ ap (λ (o : List ℕ). ((o ++ blanks) ++ decimal t) ++ in_entries) c.in_ok-push_str.ensures.added in
    let next = c.in_ok-push_str-2.ensures.added ∙ ap (λ (o : List ℕ). o ++ column) first in
    on_ok_weaker c.push_between-2.result
    (λ last. last ∙ (ap (λ (o : List ℕ). ((o ++ blanks) ++ decimal t) ++ in_ticks) next ∙ both_lines c.args.class t c.args.out.now column blanks c.class_column-class.ensures before))
    c.push_between-2.ensures.added
