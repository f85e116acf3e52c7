use Rattle.std.proofs.Common.{count_ones}
use Rattle.gs_slots.specs.Reading.{told_by}
use Rattle.gs_kernel.proofs.Gathered.{IsGathered}
use Rattle.gs_kernel.proofs.group.group_of.Given as goal

abbrev pub invariant-walk : goal.invariant-walk
invariant-walk l = IsGathered l.fn.mask l.left (told_by 0 l.region) l.group.items

abbrev pub decreases-walk : goal.decreases-walk
decreases-walk l = count_ones l.left
