use Rattle.std.proofs.Common.{◌≡◌, ◌∙◌, List, ℕ}
use Rattle.gs_core.specs.Machine.{planning}
use Rattle.gs_script.specs.Unread.{events_unread}
use Rattle.gs_replies.specs.declared.reply.Reply.{Reply}
use Rattle.gs_lines.specs.Lines.{lines}
use Rattle.gs_trace.specs.declared.form.Form.TheVariants.{Lines}
use Rattle.gs_trace.specs.Output.{shown_as}
use Rattle.gs_trace.proofs.Adding.{all_added}
use Rattle.gs_trace.proofs.Writing.{left_whole}
use Rattle.gs_trace.proofs.form.show_lines.Goals as goal

pub returns-in_err-write_out-clause-left : goal.returns-in_err-write_out-clause-left
returns-in_err-write_out-clause-left g c =
    left_whole (events_unread g.P.NamedPolicy.naming c.args.script) _ _ _ c.as_bytes.result.now _ c.from_residual-in_err-write_out.ensures.1
    (all_added g.P.Policy.chosen (λ (text : List ℕ) (rs : List Reply). text ≡ lines rs) (shown_as Lines) (planning g.P.Policy.chosen c.args.machine.now) (events_unread g.P.NamedPolicy.naming c.args.script) (planning g.P.Policy.chosen c.run_into.new.machine) c.in_ok-text.text c.as_bytes.result.now c.in_ok-text.ensures.added (λ rs h. c.as_bytes.ensures ∙ h))
    c.in_err-write_out.ensures.err

pub returns-clause-shown : goal.returns-clause-shown
returns-clause-shown g c = (
  c.as_bytes.result.now,
  all_added g.P.Policy.chosen (λ (text : List ℕ) (rs : List Reply). text ≡ lines rs) (shown_as Lines) (planning g.P.Policy.chosen c.args.machine.now) (events_unread g.P.NamedPolicy.naming c.args.script) (planning g.P.Policy.chosen c.run_into.new.machine) c.in_ok-text.text c.as_bytes.result.now c.in_ok-text.ensures.added (λ rs h. c.as_bytes.ensures ∙ h),
  c.in_ok-write_out.ensures.ok,
)
