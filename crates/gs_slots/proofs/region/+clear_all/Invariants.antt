use Rattle.std.proofs.Common.{length}
use Rattle.gs_slots.proofs.region.+clear_all.Given as goal

abbrev pub decreases-clear_all : goal.decreases-clear_all
decreases-clear_all l = length l.blocks.now
