use Rattle.std.proofs.Common.{◌≡◌, ◌+◌, ℕ, length}
use Rattle.gs_turns.specs.Knowing.{known_in}
use Rattle.gs_turns.proofs.threads.make_room.Given as goal

abbrev pub invariant-loop : goal.invariant-loop
invariant-loop l = record {
  room : length l.table.items ≡ length l.fn.table.items + l.counter;
  same : (t : ℕ) → known_in l.table.items t ≡ known_in l.fn.table.items t;
}
