use Rattle.std.proofs.Common.{◌-◌, length}
use Rattle.gs_runner.specs.Kept.{AreBefore}
use Rattle.gs_runner.proofs.search.pass.Given as goal

abbrev pub invariant-calls : goal.invariant-calls
invariant-calls l = AreBefore l.others l.at l.kept l.passed

abbrev pub decreases-calls : goal.decreases-calls
decreases-calls l = length l.kept - l.passed
