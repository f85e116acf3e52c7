use Rattle.std.proofs.Common.{ap}
use Rattle.std.proofs.lemmas.Result.{IfErr-weaker, on_ok_weaker}
use Rattle.gs_core.specs.Machine.{planning}
use Rattle.gs_script.specs.Script.{script_of}
use Rattle.gs_script.specs.Unread.{events_unread}
use Rattle.gs_script.proofs.HeaderLines.{fault_behind}
use Rattle.gs_trace.specs.Output.{shown_as}
use Rattle.gs_trace.proofs.Adding.{shown_of}
use Rattle.gs_trace.proofs.Writing.{left_weaker, writes_weaker}
use Rattle.gs_trace.proofs.run.run_input.Goals as goal

pub returns-clause-shown : goal.returns-clause-shown
returns-clause-shown g c =
    let opened = c.in_ok-config.field-0 in
    on_ok_weaker c.show.result
    (writes_weaker _ _ _ _
    (λ out t. shown_of g.P.Policy.chosen (shown_as c.args.form) (script_of g.P.NamedPolicy.naming c.args.input.now) opened.config (events_unread g.P.NamedPolicy.naming opened.reading) (planning g.P.Policy.chosen c.in-Ok.machine) (planning g.P.Policy.chosen c.show.new.machine) out c.in_ok-config.ensures.opened.is (ap (planning g.P.Policy.chosen) c.in-Ok.ensures.ok) t))
    c.show.ensures.shown

pub returns-clause-left : goal.returns-clause-left
returns-clause-left g c =
    let opened = c.in_ok-config.field-0 in
    IfErr-weaker c.show.result _ _
    (left_weaker (events_unread g.P.NamedPolicy.naming opened.reading) (script_of g.P.NamedPolicy.naming c.args.input.now) _ _ _ _
    (λ f h. fault_behind g.P.NamedPolicy.naming c.args.input.now opened.config opened.header opened.reading f c.in_ok-config.ensures.opened h)
    (λ out t. shown_of g.P.Policy.chosen (shown_as c.args.form) (script_of g.P.NamedPolicy.naming c.args.input.now) opened.config (events_unread g.P.NamedPolicy.naming opened.reading) (planning g.P.Policy.chosen c.in-Ok.machine) (planning g.P.Policy.chosen c.show.new.machine) out c.in_ok-config.ensures.opened.is (ap (planning g.P.Policy.chosen) c.in-Ok.ensures.ok) t))
    c.show.ensures.left
