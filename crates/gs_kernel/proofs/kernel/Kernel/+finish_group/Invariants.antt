use Rattle.std.proofs.Common.{length}
use Rattle.gs_kernel.proofs.kernel.Kernel.+finish_group.Given as goal

abbrev pub decreases-finish_group : goal.decreases-finish_group
decreases-finish_group g l = length l.group.now
