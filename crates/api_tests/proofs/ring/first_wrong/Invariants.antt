use Rattle.std.proofs.Common.{◌+◌, ◌≤◌}
use Rattle.gs_ring.specs.RingState.{posts}
use Rattle.api_tests.proofs.ring.first_wrong.Given as goal

-- each row posts one message at most
abbrev pub invariant-loop-index : goal.invariant-loop-index
invariant-loop-index l = posts l.ring ≤ posts l.initial.ring + l.index
