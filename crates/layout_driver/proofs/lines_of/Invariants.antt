use Rattle.std.proofs.Common.{length}
use Rattle.layout_driver.proofs.lines_of.Given as goal

abbrev pub decreases-items : goal.decreases-items
decreases-items l = length l.left
