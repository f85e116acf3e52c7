use Rattle.std.proofs.Common.{length}
use Rattle.gs_runner.proofs.calls.+stands.Given as goal

abbrev pub decreases-stands : goal.decreases-stands
decreases-stands l = length l.kept.now
