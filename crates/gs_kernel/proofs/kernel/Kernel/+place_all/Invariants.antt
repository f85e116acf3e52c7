use Rattle.std.proofs.Common.{length}
use Rattle.gs_kernel.proofs.kernel.Kernel.+place_all.Given as goal

abbrev pub decreases-place_all : goal.decreases-place_all
decreases-place_all g l = length l.group.now
