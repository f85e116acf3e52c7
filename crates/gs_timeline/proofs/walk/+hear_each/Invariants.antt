use Rattle.std.proofs.Common.{length}
use Rattle.gs_timeline.proofs.walk.+hear_each.Given as goal

-- the CPUs that are left
abbrev pub decreases-hear_each : goal.decreases-hear_each
decreases-hear_each l = length l.lanes.now
