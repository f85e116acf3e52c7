use Rattle.gs_simulate.proofs.Laws.{simulated_run}
use Rattle.gs_simulate.proofs.law.simulated_is_run.Goals as goal

pub returns : goal.returns
returns g c = simulated_run g.P.NamedPolicy.naming g.P.Policy.chosen
