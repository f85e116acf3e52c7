use Rattle.std.proofs.Common.{length}
use Rattle.gs_slots.proofs.fill.+fill_part.Given as goal

abbrev pub decreases-fill_part : goal.decreases-fill_part
decreases-fill_part l = length l.fills.now
