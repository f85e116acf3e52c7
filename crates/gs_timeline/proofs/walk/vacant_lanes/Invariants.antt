use Rattle.std.proofs.Common.{◌≡◌, replicate}
use Rattle.gs_timeline.specs.Lanes.{vacant}
use Rattle.gs_timeline.proofs.walk.vacant_lanes.Given as goal

abbrev pub invariant-loop-cpu : goal.invariant-loop-cpu
invariant-loop-cpu l = l.lanes.items ≡ replicate l.cpu vacant
