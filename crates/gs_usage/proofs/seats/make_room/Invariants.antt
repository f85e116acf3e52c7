use Rattle.std.proofs.Common.{◌≡◌, ◌+◌, ℕ, get_or, length}
use Rattle.gs_usage.proofs.seats.make_room.Given as goal

abbrev pub invariant-loop : goal.invariant-loop
invariant-loop l = record {
  room : length l.places.items ≡ length l.fn.places.items + l.counter;
  same : (t : ℕ) → get_or l.places.items t 0 ≡ get_or l.fn.places.items t 0;
}
