use Rattle.std.proofs.Common.{◌≡◌, ◌+◌, ◌≤◌, ◌++◌, length, vec_capacity, vec_len}
use Rattle.api_tests.proofs.ring.all_of.Given as goal

-- what was shown so far and what is left are all that wait, and there is room for what is left
abbrev pub invariant-loop-message : goal.invariant-loop-message
invariant-loop-message l = (l.all.items ++ l.message-iterator ≡ l.ring.unread)
    × (vec_len l.all + length l.message-iterator ≡ l.count)
    × (l.count ≤ vec_capacity l.all)
