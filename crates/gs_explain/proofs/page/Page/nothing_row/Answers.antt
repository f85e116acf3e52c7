use Rattle.std.proofs.Common.{◌∙◌, ◌∷◌, [], codes, decimal}
use Rattle.std.proofs.lemmas.Result.{on_ok_weaker}
use Rattle.gs_explain.specs.Rows.{none_shown}
use Rattle.gs_explain.proofs.Quieting.{nothing_line}
use Rattle.gs_explain.proofs.page.Page.nothing_row.Goals as goal

pub returns : goal.returns
returns c =
    let said = c.args.said.now in
    on_ok_weaker c.script_line.result (λ added. added ∙ nothing_line c.args.self.now (codes "line ") (decimal said.number) (codes ": ") said.bytes.now (10 ∷ []) (none_shown [])) c.script_line.ensures
