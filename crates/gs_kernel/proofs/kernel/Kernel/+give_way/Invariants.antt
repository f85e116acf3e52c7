use Rattle.std.proofs.Common.{length}
use Rattle.gs_kernel.proofs.kernel.Kernel.+give_way.Given as goal

abbrev pub decreases-give_way : goal.decreases-give_way
decreases-give_way g l = length l.group.now
