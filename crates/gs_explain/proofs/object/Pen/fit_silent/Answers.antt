use Rattle.std.proofs.Common.{◌∙◌, ap, ℕ, List, [], ◌++◌, codes, decimal}
use Rattle.std.proofs.lemmas.Bool.{OnTrue_at, OnTrue_from}
use Rattle.gs_explain.proofs.Composing.{silent_object}
use Rattle.gs_explain.proofs.object.Pen.fit_silent.Goals as goal

pub returns-clause-added : goal.returns-clause-added
returns-clause-added c =
    let out : List ℕ = c.args.out.now in
    let pen = c.args.self.now in
    OnTrue_from c.fit_row.result _ (λ e. OnTrue_at e c.fit_row.ensures.added ∙ (λ i. out ++ (((((((((((((codes "{\"entries\":{\"count\":" ++ decimal c.args.count) ++ codes ",\"first\":") ++ decimal pen.first) ++ codes "},\"line\":") ++ decimal pen.number) ++ codes ",\"replies\":[") ++ []) ++ codes "],\"text\":\"") ++ c.args.line.now) ++ codes "\",\"why\":[") ++ c.in_array.ensures i) ++ codes "]}\n"))) ∙ ap (λ (t : List ℕ). out ++ t) (silent_object (pen.number, c.args.line.now) pen.first c.args.count c.args.whys.now c.requires.plain))
