use Rattle.std.proofs.Common.{◌≡◌, ◌-◌, ◌∙◌, ◌∷◌, ap, sym, List, ℕ, length, take, arith}
use Rattle.gs_script.specs.Plain.{lines_left}
use Rattle.gs_script.proofs.Unread.{cut_length, line_taken, whole_text}
use Rattle.gs_script.proofs.reading.line_before.Goals as goal

pub overflow_sub-result : goal.overflow_sub-result
overflow_sub-result c =
    let cut = c.requires.cut ∙ ap (λ o. c.requires.line ∷ lines_left o) c.in-Some.is in
    let k = cut_length c.args.text.now c.requires.line c.in-Some.left.now cut in
    omega (arith, k)

pub slice_bounds-result-count : goal.slice_bounds-result-count
slice_bounds-result-count c =
    let cut = c.requires.cut ∙ ap (λ o. c.requires.line ∷ lines_left o) c.in-Some.is in
    let k = cut_length c.args.text.now c.requires.line c.in-Some.left.now cut in
    omega (arith, k)

pub returns-in-None : goal.returns-in-None
returns-in-None c =
    let cut = c.requires.cut ∙ ap (λ o. c.requires.line ∷ lines_left o) c.in-None.is in
    c.requires.cut ∙ ap (λ l. l ∷ lines_left c.args.left) (sym (whole_text c.args.text.now c.requires.line cut))

pub returns-in-Some : goal.returns-in-Some
returns-in-Some c =
    let text : List ℕ = c.args.text.now in
    let rest : List ℕ = c.in-Some.left.now in
    let cut = c.requires.cut ∙ ap (λ o. c.requires.line ∷ lines_left o) c.in-Some.is in
    let k = cut_length text c.requires.line rest cut in
    let n : length text - length rest - 1 ≡ length c.requires.line = omega (arith, k) in
    line_taken text c.requires.line rest (length text - length rest - 1) cut n ∙ ap (λ o. take (length text - length rest - 1) text ∷ lines_left o) (sym c.in-Some.is)
