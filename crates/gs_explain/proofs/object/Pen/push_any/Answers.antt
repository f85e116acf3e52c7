use Rattle.std.proofs.Common.{◌∙◌, ap, ℕ, List, ◌++◌, append_assoc}
use Rattle.std.proofs.lemmas.Result.{on_ok_weaker}
use Rattle.gs_explain.specs.Composed.{front_pieces, rest_pieces}
use Rattle.gs_explain.proofs.Outlining.{object_split}
use Rattle.gs_explain.proofs.object.Pen.push_any.Goals as goal

pub returns : goal.returns
returns c =
    let out : List ℕ = c.args.out.now in
    let pen = c.args.self.now in
    let line : List ℕ = c.args.line.now in
    let lines : List ℕ = c.args.lines.now in
    let whys : List ℕ = c.args.whys.now in
    let front : List ℕ = front_pieces pen.number pen.first c.args.count in
    let rest : List ℕ = rest_pieces line lines whys in
    on_ok_weaker c.push_rest.result
    (λ last. last ∙ (ap (λ (o : List ℕ). o ++ rest) c.in_ok-push_front.ensures ∙ (append_assoc out front rest ∙ ap (λ (t : List ℕ). out ++ t) (object_split (pen.number, line) pen.first c.args.count lines whys))))
    c.push_rest.ensures
