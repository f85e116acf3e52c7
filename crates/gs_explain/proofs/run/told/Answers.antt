use Rattle.std.proofs.Common.{ap}
use Rattle.std.proofs.lemmas.Result.{IfErr-weaker, IfOk-weaker}
use Rattle.gs_core.specs.Machine.{planning}
use Rattle.gs_script.specs.Said.{said_in}
use Rattle.gs_script.specs.Script.{script_of}
use Rattle.gs_script.proofs.HeaderLines.{fault_behind}
use Rattle.gs_explain.proofs.Told.{explained_of}
use Rattle.gs_explain.proofs.run.told.Goals as goal

pub returns-clause-told : goal.returns-clause-told
returns-clause-told g c =
    let opened = c.in_ok-config.field-0 in
    IfOk-weaker c.explain_all.result _ _
    (λ told t. explained_of g.P.NamedPolicy.naming g.P.Policy.chosen g.T.Teller.show (script_of g.P.NamedPolicy.naming c.args.input.now) (said_in c.args.input.now) opened.config opened.header opened.reading (planning g.P.Policy.chosen c.in-Ok.machine) (planning g.P.Policy.chosen c.explain_all.new.machine) (g.T.Teller.bytes told) c.in_ok-config.ensures.opened (ap (planning g.P.Policy.chosen) c.in-Ok.ensures.ok) t)
    c.explain_all.ensures.told

pub returns-clause-fault : goal.returns-clause-fault
returns-clause-fault g c =
    let opened = c.in_ok-config.field-0 in
    IfErr-weaker c.explain_all.result _ _ (λ e f. fault_behind g.P.NamedPolicy.naming c.args.input.now opened.config opened.header opened.reading e c.in_ok-config.ensures.opened f) c.explain_all.ensures.fault
