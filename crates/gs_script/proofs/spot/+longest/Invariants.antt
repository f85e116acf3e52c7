use Rattle.std.proofs.Common.{length}
use Rattle.gs_script.proofs.spot.+longest.Given as goal

abbrev pub decreases-longest : goal.decreases-longest
decreases-longest l = length l.forms.now
