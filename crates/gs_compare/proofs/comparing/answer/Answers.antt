use Rattle.std.proofs.lemmas.Result.{IfOk-weaker}
use Rattle.gs_compare.proofs.comparing.answer.Goals as goal

pub returns-clause-compared : goal.returns-clause-compared
returns-clause-compared g c =
    IfOk-weaker c.table_for.result _ _ (λ bytes is. record { workload = c.in_ok-workload.workload; says = c.in_ok-workload.ensures.says; compares = is }) c.table_for.ensures.compared

pub returns-clause-fault : goal.returns-clause-fault
returns-clause-fault g c = c.table_for.ensures.fault c.args.input.now
