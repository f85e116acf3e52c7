use Rattle.std.proofs.Common.{ap}
use Rattle.std.proofs.lemmas.Result.{IfErr-weaker, IfOk-weaker}
use Rattle.gs_core.specs.Machine.{planning}
use Rattle.gs_script.specs.Said.{said_in}
use Rattle.gs_script.specs.Script.{script_of}
use Rattle.gs_script.proofs.HeaderLines.{fault_behind}
use Rattle.gs_tables.proofs.Tabled.{table_of_script}
use Rattle.gs_tables.proofs.run.tabulated.Goals as goal

pub returns-clause-shown : goal.returns-clause-shown
returns-clause-shown g c =
    let opened = c.in_ok-config.field-0 in
    IfOk-weaker c.table_of_events.result _ _
    (λ bytes t. table_of_script g.P.NamedPolicy.naming g.P.Policy.chosen c.args.table (script_of g.P.NamedPolicy.naming c.args.input.now) (said_in c.args.input.now) opened.config opened.header opened.reading (planning g.P.Policy.chosen c.in-Ok.machine) (planning g.P.Policy.chosen c.table_of_events.new.machine) bytes.items c.in_ok-config.ensures.opened (ap (planning g.P.Policy.chosen) c.in-Ok.ensures.ok) t)
    c.table_of_events.ensures.shown

pub returns-clause-fault : goal.returns-clause-fault
returns-clause-fault g c =
    let opened = c.in_ok-config.field-0 in
    IfErr-weaker c.table_of_events.result _ _ (λ e f. fault_behind g.P.NamedPolicy.naming c.args.input.now opened.config opened.header opened.reading e c.in_ok-config.ensures.opened f) c.table_of_events.ensures.fault
