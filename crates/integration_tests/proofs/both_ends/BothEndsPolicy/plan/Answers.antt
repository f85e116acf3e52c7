use Rattle.integration_tests.proofs.Ends.{planning_more, planning_none}
use Rattle.integration_tests.proofs.both_ends.BothEndsPolicy.plan.Goals as goal

pub loop-tid-preserved-in_default : goal.loop-tid-preserved-in_default
loop-tid-preserved-in_default c = (tt, tt, planning_none _ _ _ _ _ _ _ c.loop-tid.invariant.2 c.in-Some.ensures.steps c.in_default.ensures.cpu)

pub loop-tid-preserved : goal.loop-tid-preserved
loop-tid-preserved c =
    (tt, tt, planning_more _ _ _ _ _ _ _ _ _ _ c.loop-tid.invariant.2 c.in-Some.ensures.steps c.in-Some-cpu_for.ensures.cpu c.in_ok-push.ensures.items c.without-left.ensures.here c.without-left.ensures.others)
