use Rattle.std.proofs.Common.{◌∙◌, ap, ℕ, List, [], ◌++◌, codes, decimal}
use Rattle.std.proofs.lemmas.Bool.{OnTrue_at, OnTrue_from}
use Rattle.gs_explain.proofs.Tailing.{row_refused}
use Rattle.gs_explain.proofs.object.Pen.fit_refused.Goals as goal

pub returns-clause-added : goal.returns-clause-added
returns-clause-added c =
    let out : List ℕ = c.args.out.now in
    let pen = c.args.self.now in
    OnTrue_from c.fit_row.result _ (λ e. OnTrue_at e c.fit_row.ensures.added ∙ ((λ i. out ++ ((((((((((((codes "{\"entries\":{\"count\":" ++ decimal 0) ++ codes ",\"first\":") ++ decimal pen.first) ++ codes "},\"line\":") ++ decimal pen.number) ++ codes ",\"replies\":[") ++ c.as_bytes.ensures.value i) ++ codes "],\"text\":\"") ++ c.args.line.now) ++ codes "\"") ++ []) ++ [])) ∙ ap (λ (t : List ℕ). out ++ t) (row_refused pen.first pen.number c.args.reply.now c.args.line.now c.if-not-is_plain.ensures)))
