use Rattle.std.proofs.Common.{◌≤◌}
use Rattle.api_tests.proofs.policy.waiting.Given as goal

-- the room stays
abbrev pub invariant-loop-tid : goal.invariant-loop-tid
invariant-loop-tid l = 65536 ≤ l.queue.room
