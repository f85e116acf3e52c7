use Rattle.std.proofs.Common.{◌∙◌, ap, Some}
use Rattle.std.proofs.lemmas.Result.{IfOk-weaker}
use Rattle.serde_json.specs.Written.{compact_text}
use Rattle.gs_lines.specs.Lines.{line}
use Rattle.gs_report.proofs.Values.{report_data_is}
use Rattle.gs_report.proofs.report.Report.to_line.Goals as goal

pub returns-clause-text : goal.returns-clause-text
returns-clause-text c =
    IfOk-weaker c.report_line.result _ _
    (λ report e rs on. e ∙ ap (λ d. line (compact_text d)) (report_data_is c.args.last rs c.args.self.now.counts c.as_str.result.now _ on.counted (c.as_str.ensures ∙ on.written) c.in_ok-texts.ensures)) c.report_line.ensures.text

pub returns-clause-reads : goal.returns-clause-reads
returns-clause-reads c =
    IfOk-weaker c.report_line.result _ _
    (λ report h rs on. (h.0, h.1, h.2 ∙ ap Some (report_data_is c.args.last rs c.args.self.now.counts c.as_str.result.now _ on.counted (c.as_str.ensures ∙ on.written) c.in_ok-texts.ensures))) c.report_line.ensures.reads
