use Rattle.std.proofs.Common.{length}
use Rattle.gs_slots.proofs.fill.+from_cpu.Given as goal

abbrev pub decreases-from_cpu : goal.decreases-from_cpu
decreases-from_cpu l = length l.fills.now
