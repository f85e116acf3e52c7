use Rattle.std.proofs.Common.{◌≡◌, ◌<◌, ℕ, Some, length, slice_get}
use Rattle.gs_turns.specs.Ticked.{tick_places}
use Rattle.gs_turns.proofs.ticks.ticks_of.Given as goal

abbrev pub invariant-loop-place : goal.invariant-loop-place
invariant-loop-place l = record {
  count : length l.all.items ≡ l.cpus;
  ticks : (c : ℕ) → c < l.cpus → slice_get l.all.items c ≡ Some (tick_places l.journal.entries c l.place);
}
