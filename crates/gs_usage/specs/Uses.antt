-- What a CPU was used for, behind each entry of a history.
use Rattle.std.specs.Prelude.{Bool, true, false, ℕ, suc, ◌==◌, ◌&&◌, Option, None, Some, List, if◌then◌else◌, length, slice_get, take}
use Rattle.std.specs.List.{count_by, flat_map, list_any, range_with_len}
use Rattle.std.specs.Option.{is_some, option_to_list}
use Rattle.gs_status.specs.Masks.{has}
use Rattle.gs_layout.specs.declared.message.Message.TheVariants.{Thread}
use Rattle.gs_journal.specs.declared.entry.Entry.{Entry}
use Rattle.gs_journal.specs.declared.entry.Entry.TheVariants.{Posted}
use Rattle.gs_journal.specs.History.{History, active, on, taken}
use Rattle.gs_journal.specs.Record.{mask_by as mask_by_change}
use Rattle.gs_journal.specs.Standing.{latest}
use Rattle.gs_turns.specs.Knowing.{subject}
use Rattle.gs_turns.specs.Stances.{is_ready}
use Rattle.gs_turns.specs.Ticked.{is_tick_there}
use Rattle.gs_turns.specs.declared.time.Time.{Time}
use Rattle.gs_usage.specs.declared.usage.Usage.{Usage}
use Rattle.gs_usage.specs.declared.usage.Use.{Use}
use Rattle.gs_usage.specs.declared.usage.Use.TheVariants.{Other, Agent, Busy, Wanted, Idle}

-- the mask that an entry gives a thread: a creation or an affinity does
abbrev pub mask_by : ℕ → Entry → Option ℕ
mask_by t (Posted (Thread u s c)) = if u == t then mask_by_change c else None
mask_by t _ = None

-- a thread's mask: the last one that an entry gave it
unfoldable pub mask_in : History → ℕ → Option ℕ
mask_in h t = latest (mask_by t) h

-- whether a mask has a CPU. No mask has one
abbrev pub allows : ℕ → Option ℕ → Bool
allows c None = false
allows c (Some m) = has m c

-- whether a thread waits for a CPU and may run on this one
abbrev pub wants : History → ℕ → ℕ → Bool
wants h c t = is_ready t h && allows c (mask_in h t)

-- the threads that entries are about
abbrev pub threads_in : History → List ℕ
threads_in h = flat_map (λ (e : Entry). option_to_list (subject e)) h

-- whether some thread waits that may run on a CPU
unfoldable pub is_wanted : History → ℕ → Bool
is_wanted h c = list_any (wants h c) (threads_in h)

-- whether an agent is on a CPU
abbrev pub is_there : ℕ → Option (ℕ × ℕ) → Bool
is_there c None = false
is_there c (Some r) = r.1 == c

-- the first use of which it is so. The other class has the CPU, the agent is on it, a thread is on it, or a thread waits that may run on it.
-- It is idle if none is
abbrev pub first_use : Bool → Bool → Bool → Bool → Use
first_use true agent busy wanted = Other
first_use false true busy wanted = Agent
first_use false false true wanted = Busy
first_use false false false true = Wanted
first_use false false false false = Idle

-- what a CPU is used for
unfoldable pub use_of : History → ℕ → Use
use_of h c = first_use (taken h c) (is_there c (active h)) (is_some (on h c)) (is_wanted h c)

abbrev pub same_use : Use → Use → Bool
same_use Other Other = true
same_use Agent Agent = true
same_use Busy Busy = true
same_use Wanted Wanted = true
same_use Idle Idle = true
same_use _ _ = false

-- whether a CPU has a use behind entry k
abbrev pub has_use : Use → History → ℕ → ℕ → Bool
has_use u h c k = same_use u (use_of (take (suc k) h) c)

-- for how many of the first n entries a CPU has a use, and how many of these entries are ticks of the CPU
abbrev pub time_to : ℕ → Use → History → ℕ → Time
time_to n u h c = record {
  entries = count_by (has_use u h c) (range_with_len 0 n);
  ticks = count_by (λ (k : ℕ). has_use u h c k && is_tick_there c (slice_get h k)) (range_with_len 0 n);
}

-- the time that a CPU was used for something
unfoldable pub time_of : Use → History → ℕ → Time
time_of u h c = time_to (length h) u h c

-- what a CPU was used for
unfoldable pub usage_of : History → ℕ → Usage
usage_of h c = record { busy = time_of Busy h c; agent = time_of Agent h c; other = time_of Other h c; wanted = time_of Wanted h c; idle = time_of Idle h c }
