use Rattle.std.proofs.Common.{length}
use Rattle.gs_script.proofs.forms.+add_fronts.Given as goal

abbrev pub decreases-add_fronts : goal.decreases-add_fronts
decreases-add_fronts l = length l.fronts.now
