use Rattle.std.proofs.Common.{◌≡◌, false, length}
use Rattle.gs_timeline.specs.Homes.{AreHome}
use Rattle.gs_timeline.proofs.Walked.{AreLanes}
use Rattle.gs_timeline.proofs.walk.stays_in.Given as goal

abbrev pub invariant-loop-place : goal.invariant-loop-place
invariant-loop-place l = AreLanes l.journal.entries l.place 0 l.lanes.items × (length l.lanes.items ≡ l.cpus) × (l.homes.lost ≡ false → AreHome l.homes.cpus.items 0 l.lanes.items)
