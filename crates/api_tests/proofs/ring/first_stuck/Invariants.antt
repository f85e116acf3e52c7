use Rattle.std.proofs.Common.{◌≤◌}
use Rattle.gs_ring.specs.RingState.{posts}
use Rattle.api_tests.proofs.ring.first_stuck.Given as goal

abbrev pub invariant-loop-tid : goal.invariant-loop-tid
invariant-loop-tid l = posts l.ring ≤ l.tid
