-- Which slots are other than idle.
use Rattle.std.specs.Prelude.{◌≡◌, Bool, false, not, ℕ, ◌<◌, ◌^◌, nat_eq, Option, None, Some, List, length, slice_get}
use Rattle.std.specs.Cmp.Lexicographic.{pointwise}
use Rattle.gs_status.specs.Masks.{has}
use Rattle.gs_status.specs.declared.mask.TheConstants.{MOST_CPUS}
use Rattle.gs_slots.specs.Reading.{is_flagged}
use Rattle.gs_slots.specs.Spelling.{idle_bytes}

-- whether these are other bytes than those of an idle slot
unfoldable pub is_busy : List ℕ → Bool
is_busy bytes = not (pointwise nat_eq bytes idle_bytes)

abbrev pub is_busy_if_any : Option (List ℕ) → Bool
is_busy_if_any None = false
is_busy_if_any (Some bytes) = is_busy bytes

-- whether there is a slot of CPU c, and it is not idle
abbrev pub is_busy_at : List (List ℕ) → ℕ → Bool
is_busy_at slots c = is_busy_if_any (slice_get slots c)

-- whether a mask has all CPUs below MOST_CPUS whose slots are not idle, and perhaps more
abbrev pub CoversBusy : List (List ℕ) → ℕ → Type 0
CoversBusy slots mask = (c : ℕ) → c < MOST_CPUS → has mask c ≡ false → is_busy_at slots c ≡ false

-- whether there is a slot of CPU c, and it has the flag of a group
abbrev pub is_flagged_if_any : Option (List ℕ) → Bool
is_flagged_if_any None = false
is_flagged_if_any (Some bytes) = is_flagged bytes

abbrev pub is_flagged_at : List (List ℕ) → ℕ → Bool
is_flagged_at slots c = is_flagged_if_any (slice_get slots c)

-- no slot of a CPU below MOST_CPUS has it
abbrev pub HasNoFlag : List (List ℕ) → Type 0
HasNoFlag slots = (c : ℕ) → c < MOST_CPUS → is_flagged_at slots c ≡ false

-- what a region keeps: few slots, which of them may be busy, and whether one may have the flag of a group
pub record IsRegion (slots : List (List ℕ)) (lent : ℕ) (flagged : Bool) : Type 0 where
  pub few : length slots < 2 ^ 16
  pub covered : CoversBusy slots lent
  pub single : flagged ≡ false → HasNoFlag slots
