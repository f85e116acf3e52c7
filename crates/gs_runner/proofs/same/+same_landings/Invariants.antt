use Rattle.std.proofs.Common.{length}
use Rattle.gs_runner.proofs.same.+same_landings.Given as goal

abbrev pub decreases-same_landings : goal.decreases-same_landings
decreases-same_landings l = length l.one.now
