-- How long each CPU had a use.
use Rattle.std.specs.Prelude.{ℕ, ◌≡◌, ◌+◌, ◌-◌, ◌*◌, ◌^◌, ◌<◌, ◌≤◌, length, min, take}
use Rattle.std.specs.Int.{bit_at}
use Rattle.gs_status.specs.declared.mask.TheConstants.{MOST_CPUS}
use Rattle.gs_status.specs.Masks.{has}
use Rattle.gs_journal.specs.History.{History}
use Rattle.gs_usage.specs.Uses.{same_use, time_to, use_of}
use Rattle.gs_usage.specs.declared.usage.Use.{Use}
use Rattle.gs_usage.specs.Counting.{totalled}
use Rattle.gs_usage.specs.declared.tally.Tally.{Tally}

-- behind how many of the first n entries a CPU had it
abbrev pub entries_to : ℕ → Tally → ℕ → ℕ
entries_to n t i = totalled t.entries.digits.items i + (n - t.since) * bit_at t.set i

-- how many of these are ticks of the CPU
abbrev pub ticks_in : Tally → ℕ → ℕ
ticks_in t i = totalled t.ticks.digits.items i

-- its counts may go up to a number
pub record HasRoom (most : ℕ) (t : Tally) : Type 0 where
  pub entries : most < 2 ^ length t.entries.digits.items
  pub ticks : most < 2 ^ length t.ticks.digits.items

-- what one more entry makes of it that leaves the use to the CPUs of a set, and is a tick of the CPUs of another
pub record IsTallyThen (n set ticked : ℕ) (old new : Tally) : Type 0 where
  pub is : new.set ≡ set
  pub since : new.since ≤ n
  pub entries : (i : ℕ) → i < MOST_CPUS → entries_to (n + 1) new i ≡ entries_to n old i + bit_at set i
  pub ticks : (i : ℕ) → i < MOST_CPUS → ticks_in new i ≡ ticks_in old i + min (bit_at set i) (bit_at ticked i)
  pub entries_room : length new.entries.digits.items ≡ length old.entries.digits.items
  pub ticks_room : length new.ticks.digits.items ≡ length old.ticks.digits.items

-- so long the CPUs of a block had a use behind the first n entries
pub record IsTally (h : History) (n first : ℕ) (u : Use) (t : Tally) : Type 0 where
  pub is : (i : ℕ) → i < MOST_CPUS → has t.set i ≡ same_use u (use_of (take n h) (first + i))
  pub entries : (i : ℕ) → i < MOST_CPUS → entries_to n t i ≡ (time_to n u h (first + i)).entries
  pub ticks : (i : ℕ) → i < MOST_CPUS → ticks_in t i ≡ (time_to n u h (first + i)).ticks
  pub since : t.since ≤ n
  pub room : HasRoom (length h) t
