use Rattle.std.proofs.Common.{length}
use Rattle.gs_workload.proofs.place.without_blanks.Given as goal

abbrev pub decreases-blanks : goal.decreases-blanks
decreases-blanks l = length l.rest
