-- Who has each CPU, who is on it, and how many threads wait for it, as a history is walked.
use Rattle.std.specs.Prelude.{◌≡◌, ◌<◌, ◌≤◌, ◌+◌, ◌==◌, ◌^◌, Bool, false, ℕ, nat_lt, length, take, unwrap_or}
use Rattle.gs_status.specs.declared.mask.TheConstants.{MOST_CPUS}
use Rattle.gs_status.specs.Masks.{has}
use Rattle.gs_journal.specs.declared.entry.Entry.{Entry}
use Rattle.gs_journal.specs.declared.entry.Entry.TheVariants.{Role, Begin, Left, Torn}
use Rattle.gs_journal.specs.History.{History, active, ends_run, on, placed_on, taken, taken_by}
use Rattle.gs_journal.specs.Standing.{then_stands}
use Rattle.gs_usage.specs.Counting.{count_of}
use Rattle.gs_usage.specs.Seats.{IsKept, who}
use Rattle.gs_usage.specs.Uses.{first_use, is_there}
use Rattle.gs_usage.specs.Waiting.{ThreadsOf, waiting, waiting_then}
use Rattle.gs_usage.specs.declared.facts.Facts.{Facts}
use Rattle.gs_usage.specs.declared.row.WaitChange.{WaitChange}
use Rattle.gs_usage.specs.declared.usage.Use.{Use}

-- whether the active agent is on a CPU behind an entry
abbrev pub agent_then : ℕ → Entry → Bool → Bool
agent_then c (Role g d) b = d == c
agent_then c (Begin g) b = false
agent_then c Left b = false
agent_then c Torn b = false
agent_then c _ b = b

-- what a CPU is used for
abbrev pub use_now : Facts → ℕ → Use
use_now f i = first_use (has f.taken i) (has f.agent i) (has f.seats.busy i) (nat_lt 0 (count_of f.waiting i))

-- what one more entry makes of the CPUs of a block
pub record AreFactsThen (first : ℕ) (e : Entry) (change : WaitChange) (old new : Facts) : Type 0 where
  pub taken : (i : ℕ) → i < MOST_CPUS → has new.taken i ≡ unwrap_or (taken_by (first + i) e) (has old.taken i)
  pub agent : (i : ℕ) → i < MOST_CPUS → has new.agent i ≡ agent_then (first + i) e (has old.agent i)
  pub on : (i : ℕ) → i < MOST_CPUS → who new.seats i ≡ then_stands (placed_on (first + i) e) ends_run e (who old.seats i)
  pub waiting : (i : ℕ) → i < MOST_CPUS → count_of new.waiting i ≡ waiting_then (first + i) e change (count_of old.waiting i)
  pub kept : IsKept new.seats.busy new.seats.threads.items new.seats.places.items
  pub room : length new.waiting.words ≡ length old.waiting.words
  pub wanted : (i : ℕ) → i < MOST_CPUS → has new.wanted i ≡ nat_lt 0 (count_of new.waiting i)

-- so the CPUs of a block are behind the first n entries
pub record AreFacts (h : History) (n first : ℕ) (ts : ThreadsOf) (f : Facts) : Type 0 where
  pub taken : (i : ℕ) → i < MOST_CPUS → has f.taken i ≡ taken (take n h) (first + i)
  pub agent : (i : ℕ) → i < MOST_CPUS → has f.agent i ≡ is_there (first + i) (active (take n h))
  pub on : (i : ℕ) → i < MOST_CPUS → who f.seats i ≡ on (take n h) (first + i)
  pub waiting : (i : ℕ) → i < MOST_CPUS → count_of f.waiting i ≡ waiting ts (first + i)
  pub few : (i : ℕ) → i < MOST_CPUS → count_of f.waiting i ≤ n
  pub kept : IsKept f.seats.busy f.seats.threads.items f.seats.places.items
  pub room : length h < 2 ^ length f.waiting.words
  pub wanted : (i : ℕ) → i < MOST_CPUS → has f.wanted i ≡ nat_lt 0 (count_of f.waiting i)
