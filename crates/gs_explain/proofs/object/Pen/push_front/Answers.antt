use Rattle.std.proofs.Common.{◌≡◌, ◌∙◌, ap, ℕ, List, ◌++◌, append_assoc, codes, decimal}
use Rattle.std.proofs.lemmas.Result.{on_ok_weaker}
use Rattle.gs_explain.proofs.object.Pen.push_front.Goals as goal

regroup : (o a c f g e n : List ℕ) → (((((o ++ a) ++ c) ++ f) ++ g) ++ e) ++ n ≡ o ++ (((((a ++ c) ++ f) ++ g) ++ e) ++ n)
regroup o a c f g e n = simp append_assoc

pub returns : goal.returns
returns c =
    let pen = c.args.self.now in
    on_ok_weaker c.push_digits.result
    (λ last. last ∙ (ap (λ (o : List ℕ). (o ++ codes "},\"line\":") ++ decimal pen.number) c.in_ok-push_number_digits.ensures.added
    ∙ regroup c.args.out.now (codes "{\"entries\":{\"count\":") (decimal c.args.count) (codes ",\"first\":") (decimal pen.first) (codes "},\"line\":") (decimal pen.number)))
    c.push_digits.ensures.added
