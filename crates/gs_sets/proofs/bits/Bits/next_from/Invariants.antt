use Rattle.std.proofs.Common.{◌≡◌, ◌/◌, ◌-◌, ◌<◌, ◌≤◌, ℕ, false, length}
use Rattle.gs_sets.specs.declared.bits.TheConstants.{WORD}
use Rattle.gs_sets.specs.Bits.{is_in}
use Rattle.gs_sets.proofs.bits.Bits.next_from.Given as goal

abbrev pub invariant-loop-at : goal.invariant-loop-at
invariant-loop-at l = (l.fn.from ≤ l.at) × ((k : ℕ) → l.fn.from ≤ k → k < l.at → is_in l.self-inside.words.items k ≡ false)

abbrev pub decreases-loop-at : goal.decreases-loop-at
decreases-loop-at l = length l.self-inside.words.items - l.at / WORD
