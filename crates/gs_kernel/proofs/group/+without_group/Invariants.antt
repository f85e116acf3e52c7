use Rattle.std.proofs.Common.{length}
use Rattle.gs_kernel.proofs.group.+without_group.Given as goal

abbrev pub decreases-without_group : goal.decreases-without_group
decreases-without_group l = length l.group.now
