use Rattle.std.proofs.Common.{length}
use Rattle.gs_script.proofs.spot.+first_spot.Given as goal

abbrev pub decreases-first_spot : goal.decreases-first_spot
decreases-first_spot l = length l.words.now
