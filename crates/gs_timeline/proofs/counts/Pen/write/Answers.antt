use Rattle.std.proofs.Common.{◌∷◌, ◌++◌, ◌∙◌, [], ap, codes, decimal, List, ℕ}
use Rattle.gs_timeline.specs.Shapes.{outcome_shape, outcome_words}
use Rattle.gs_timeline.proofs.Pieces.{adds_four, adds_then, adds_two}
use Rattle.gs_timeline.proofs.counts.Pen.write.Goals as goal

pub returns : goal.returns
returns c =
    let o = c.args.outcome in
    let old = c.args.out.now.settled in
    let shape : List ℕ = outcome_shape o ++ codes "\"/>\n" in
    let words : List ℕ = outcome_words o ++ (codes " " ++ (decimal c.args.count ++ codes "</text>\n")) in
    let begun = c.begin_path.new.out in
    let drawn = c.push_str-2.new.self in
    let middle = c.settle.new.self.settled in
    let named = c.begin_text.new.out in
    let told = c.push_str-4.new.self in
    let first =
    adds_two old begun.told c.push_str.new.self.told drawn.told middle (outcome_shape o) (codes "\"/>\n") (c.in_ok-push_str.ensures.told ∙ ap (λ (t : List ℕ). begun.told ++ t) c.shape_of.ensures) c.in_ok-push_str-2.ensures.told
    (ap (λ t. t.settled) c.settle.ensures ∙ ap (λ (t : List ℕ). t ++ drawn.told) (c.in_ok-push_str-2.ensures.settled ∙ (c.in_ok-push_str.ensures.settled ∙ c.begin_path.ensures))) in
    let second =
    adds_four middle named.told c.push_str-3.new.self.told c.push_number.new.self.told told.told c.settle-2.new.self.settled (outcome_words o) (codes " ") (decimal c.args.count) (codes "</text>\n")
    (c.in_ok-push_str-3.ensures.told ∙ ap (λ (t : List ℕ). named.told ++ t) c.words_of-words.ensures) c.in_ok-push_number.ensures.told c.in_ok-push_str-4.ensures.told
    (ap (λ t. t.settled) c.settle-2.ensures ∙ ap (λ (t : List ℕ). t ++ told.told) (c.in_ok-push_str-4.ensures.settled ∙ (c.in_ok-push_number.ensures.settled ∙ (c.in_ok-push_str-3.ensures.settled ∙ c.begin_text.ensures)))) in
    adds_then (shape ∷ []) (words ∷ []) old middle c.settle-2.new.self.settled first second
