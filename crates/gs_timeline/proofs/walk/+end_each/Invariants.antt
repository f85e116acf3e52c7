use Rattle.std.proofs.Common.{length}
use Rattle.gs_timeline.proofs.walk.+end_each.Given as goal

-- the CPUs that are left
abbrev pub decreases-end_each : goal.decreases-end_each
decreases-end_each l = length l.lanes.now
