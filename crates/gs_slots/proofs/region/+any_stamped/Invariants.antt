use Rattle.std.proofs.Common.{length}
use Rattle.gs_slots.proofs.region.+any_stamped.Given as goal

abbrev pub decreases-any_stamped : goal.decreases-any_stamped
decreases-any_stamped l = length l.blocks.now
