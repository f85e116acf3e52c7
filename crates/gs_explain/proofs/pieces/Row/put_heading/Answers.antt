use Rattle.std.proofs.Common.{◌≡◌, ◌∙◌, ◌++◌, ◌∷◌, [], ap, codes, decimal, ℕ, List}
use Rattle.gs_explain.specs.Rows.{heading}
use Rattle.gs_sentences.specs.Tails.{tail_text}
use Rattle.gs_explain.proofs.Rowing.{ends_more, regroup}
use Rattle.gs_explain.proofs.pieces.Row.put_heading.Goals as goal

pub invariant_of-self : goal.invariant_of-self
invariant_of-self c = λ told text.
    let before = c.self.inside.bytes in
    let line = c.args.line.now in
    let number = decimal c.args.number in
    let put : c.put-3.new.self ≡ codes "line " ++ (number ++ (codes ": " ++ (line ++ (10 ∷ [] ++ before)))) =
    c.put-3.ensures
    ∙ ap (λ (t : List ℕ). codes "line " ++ t)
    (c.put_number.ensures.value ∙ ap (λ (t : List ℕ). number ++ t) (c.put-2.ensures ∙ ap (λ (t : List ℕ). codes ": " ++ t) (c.put_bytes.ensures ∙ ap (λ (t : List ℕ). line ++ t) c.put.ensures))) in
    ends_more (tail_text text c.self.inside.tail) (heading (c.args.number, line)) before c.put-3.new.self c.self.inside.len (c.self.invariant told text) (put ∙ regroup (codes "line ") number (codes ": ") line (10 ∷ []) before)
