use Rattle.std.proofs.Common.{◌∙◌}
use Rattle.gs_core.specs.Machine.{planning}
use Rattle.gs_script.specs.Unread.{events_unread}
use Rattle.gs_report.specs.Report.{ReportsOn}
use Rattle.gs_trace.specs.declared.form.Form.TheVariants.{Report}
use Rattle.gs_trace.specs.Output.{shown_as}
use Rattle.gs_trace.proofs.Adding.{all_added}
use Rattle.gs_trace.proofs.Writing.{left_whole}
use Rattle.gs_trace.proofs.form.show_report.Goals as goal

pub returns-in_err-write_out-clause-left : goal.returns-in_err-write_out-clause-left
returns-in_err-write_out-clause-left g c =
    left_whole (events_unread g.P.NamedPolicy.naming c.args.script) _ _ _ c.as_bytes.result.now _ c.from_residual-in_err-write_out.ensures.1
    (all_added g.P.Policy.chosen ReportsOn (shown_as (Report c.args.last)) (planning g.P.Policy.chosen c.args.machine.now) (events_unread g.P.NamedPolicy.naming c.args.script) (planning g.P.Policy.chosen c.run_into.new.machine) c.in_ok-report.report c.as_bytes.result.now c.in_ok-report.ensures.added (λ rs h. c.as_bytes.ensures.value ∙ c.in_ok-line.ensures.text rs h))
    c.in_err-write_out.ensures.err

pub returns-clause-shown : goal.returns-clause-shown
returns-clause-shown g c = (
  c.as_bytes.result.now,
  all_added g.P.Policy.chosen ReportsOn (shown_as (Report c.args.last)) (planning g.P.Policy.chosen c.args.machine.now) (events_unread g.P.NamedPolicy.naming c.args.script) (planning g.P.Policy.chosen c.run_into.new.machine) c.in_ok-report.report c.as_bytes.result.now c.in_ok-report.ensures.added (λ rs h. c.as_bytes.ensures.value ∙ c.in_ok-line.ensures.text rs h),
  c.in_ok-write_out.ensures.ok,
)
