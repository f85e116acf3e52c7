use Rattle.std.proofs.Common.{◌≡◌, length}
use Rattle.gs_reader.specs.Records.{segment}
use Rattle.gs_reader.proofs.records.next_in.Given as goal

abbrev pub invariant-loop-rest : goal.invariant-loop-rest
invariant-loop-rest l = segment l.rest ≡ segment l.bytes

abbrev pub decreases-loop-rest : goal.decreases-loop-rest
decreases-loop-rest l = length l.rest
