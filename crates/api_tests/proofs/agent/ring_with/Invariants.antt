use Rattle.std.proofs.Common.{◌≤◌}
use Rattle.gs_ring.specs.RingState.{posts}
use Rattle.api_tests.proofs.agent.ring_with.Given as goal

abbrev pub invariant-loop-one : goal.invariant-loop-one
invariant-loop-one l = posts l.ring ≤ l.one-index
