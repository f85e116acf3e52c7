-- Counts of many places at once, in binary: word k has digit k of the count of each place.
use Rattle.std.specs.Prelude.{ℕ, ◌+◌, ◌-◌, ◌*◌, ◌<◌, ◌≤◌, List, [], ◌∷◌}
use Rattle.std.specs.Int.{bit_at}
use Rattle.gs_status.specs.declared.mask.TheConstants.{MOST_CPUS}
use Rattle.gs_usage.specs.declared.totals.Digit.{Digit}

-- the count of a place
abbrev pub counted : List ℕ → ℕ → ℕ
counted [] i = 0
counted (w ∷ ws) i = bit_at w i + 2 * counted ws i

-- words, and places that are owed one
pub record Owing : Type 0 where
  pub words : List ℕ
  pub owed : ℕ

-- the count of a place: one less than the words say if it is owed one
abbrev pub count_of : Owing → ℕ → ℕ
count_of c i = counted c.words i - bit_at c.owed i

-- no place is owed one whose count is 0 by the words
abbrev pub IsOwed : List ℕ → ℕ → Type 0
IsOwed ws owed = (i : ℕ) → i < MOST_CPUS → bit_at owed i ≤ counted ws i

-- the total of a place, of which a digit may be two
abbrev pub totalled : List Digit → ℕ → ℕ
totalled [] i = 0
totalled (d ∷ ds) i = bit_at d.word i + bit_at d.kept i + 2 * totalled ds i
