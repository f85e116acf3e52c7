use Rattle.std.proofs.Common.{◌≡◌, ◌∙◌, ap}
use Rattle.gs_core.specs.Machine.{planning}
use Rattle.gs_script.specs.Unread.{events_unread}
use Rattle.gs_trace.specs.declared.form.Form.TheVariants.{Journal}
use Rattle.gs_trace.specs.Output.{history_shown, shown_as}
use Rattle.gs_trace.proofs.Adding.{all_added}
use Rattle.gs_trace.proofs.Writing.{left_whole}
use Rattle.gs_trace.proofs.form.show_history.Goals as goal

pub returns-in_err-write_out-clause-left : goal.returns-in_err-write_out-clause-left
returns-in_err-write_out-clause-left g c =
    let history : c.journal.result.now.entries ≡ c.run_into.new.machine.history = c.journal.ensures.entries ∙ c.kernel.ensures.history in
    left_whole (events_unread g.P.NamedPolicy.naming c.args.script) _ _ _ c.as_slice.result.now _ c.from_residual-in_err-write_out.ensures.1
    (all_added g.P.Policy.chosen _ (shown_as (Journal c.args.notation)) (planning g.P.Policy.chosen c.args.machine.now) (events_unread g.P.NamedPolicy.naming c.args.script) (planning g.P.Policy.chosen c.run_into.new.machine) c.in_ok-run_into.field-0 c.as_slice.result.now c.in_ok-run_into.ensures.added
    (λ rs h. c.as_slice.ensures.value ∙ (c.in_ok-bytes.ensures ∙ ap (history_shown c.args.notation) history)))
    c.in_err-write_out.ensures.err

pub returns-clause-shown : goal.returns-clause-shown
returns-clause-shown g c =
    let history : c.journal.result.now.entries ≡ c.run_into.new.machine.history = c.journal.ensures.entries ∙ c.kernel.ensures.history in (
      c.as_slice.result.now,
      all_added g.P.Policy.chosen _ (shown_as (Journal c.args.notation)) (planning g.P.Policy.chosen c.args.machine.now) (events_unread g.P.NamedPolicy.naming c.args.script) (planning g.P.Policy.chosen c.run_into.new.machine) c.in_ok-run_into.field-0 c.as_slice.result.now c.in_ok-run_into.ensures.added
          (λ rs h. c.as_slice.ensures.value ∙ (c.in_ok-bytes.ensures ∙ ap (history_shown c.args.notation) history)),
      c.in_ok-write_out.ensures.ok,
    )
