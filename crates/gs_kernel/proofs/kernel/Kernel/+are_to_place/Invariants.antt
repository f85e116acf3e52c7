use Rattle.std.proofs.Common.{length}
use Rattle.gs_kernel.proofs.kernel.Kernel.+are_to_place.Given as goal

abbrev pub decreases-are_to_place : goal.decreases-are_to_place
decreases-are_to_place g l = length l.group.now
