use Rattle.std.proofs.Common.{◌≡◌, ◌<◌, ◌≤◌, ℕ, get_or, length, map, take}
use Rattle.gs_timeline.specs.declared.stay.Stay.{Stay}
use Rattle.gs_turns.specs.Knowing.{AreKnown}
use Rattle.gs_turns.specs.Turns.{turn_of}
use Rattle.gs_turns.proofs.walk.turns_of.Given as goal

abbrev pub invariant-loop-stay : goal.invariant-loop-stay
invariant-loop-stay l = record {
  known : AreKnown l.journal.entries l.place l.threads;
  turns : l.turns.items ≡ map (turn_of l.journal.entries) (take l.stay-index l.order);
  within : l.place ≤ length l.journal.entries;
  behind : (i : ℕ) (d : Stay) → l.stay-index ≤ i → i < length l.order → l.place ≤ (get_or l.order i d).from;
}
