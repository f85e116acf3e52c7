use Rattle.std.proofs.Common.{rules, ℕ, List}
use Rattle.gs_workbench.specs.Settings.{policy_of}
use Rattle.gs_workbench.specs.Written.{IsRefusalOf}
use Rattle.gs_compare.proofs.comparing.run.Goals as goal

pub returns-clause-ran : goal.returns-clause-ran
returns-clause-ran g c = c.measured_run.ensures.ran c.args.workload.now (policy_of g.P.NamedPolicy.naming c.args.simulation.policy c.args.workload.now.policy) c.in_ok-simulated.ensures.headed

pub returns-in_err-simulated-clause-fault : goal.returns-in_err-simulated-clause-fault
returns-in_err-simulated-clause-fault g c = λ (input : List ℕ).
    let refused : IsRefusalOf g.P.NamedPolicy.naming input c.in_err-simulated.field-0.0 = c.in_err-simulated.ensures.fault input in
    search (rules, refused)
