use Rattle.std.proofs.Common.{length}
use Rattle.gs_script.proofs.spot.+has_count.Given as goal

abbrev pub decreases-has_count : goal.decreases-has_count
decreases-has_count l = length l.forms.now
