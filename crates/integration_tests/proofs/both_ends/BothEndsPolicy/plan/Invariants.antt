use Rattle.gs_policy.specs.Shown.{shows}
use Rattle.gs_runq.specs.Queue.{order}
use Rattle.integration_tests.proofs.Ends.{IsPlanning}
use Rattle.integration_tests.proofs.both_ends.BothEndsPolicy.plan.Given as goal

abbrev pub invariant-loop-tid : goal.invariant-loop-tid
invariant-loop-tid l =
    (goal.iterator-loop-tid).can_next l.tid-iterator ×
    (goal.iterator-loop-tid).is_finite l.tid-iterator ×
    IsPlanning (shows l.view.entries l.cpus l.queue) l.left l.choices.items l.tid-iterator (order l.queue)
