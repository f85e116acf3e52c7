use Rattle.gs_policy.specs.Shown.{shows}
use Rattle.round_robin.specs.RoundRobin.{turn_takes, turn_taking}
use Rattle.round_robin.proofs.policy.RoundRobin.candidates.Goals as goal

pub returns : goal.returns
returns c = λ queue.
    c.new.ensures (turn_takes c.args.self.now) c.args.view.now.entries queue (turn_taking c.args.self.now (shows c.args.view.now.entries c.args.cpus.now queue))
    (record { by_zero = c.spent_cpus-spent.ensures; by_one = c.spent_cpus-spent.ensures })
