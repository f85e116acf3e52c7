use Rattle.std.proofs.Common.{length}
use Rattle.gs_kernel.proofs.kernel.Kernel.+group_entries.Given as goal

abbrev pub decreases-group_entries : goal.decreases-group_entries
decreases-group_entries g l = length l.group.now
