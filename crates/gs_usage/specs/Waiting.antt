-- Which threads wait, as a history is walked.
use Rattle.std.specs.Prelude.{◌≡◌, ◌<◌, ◌≤◌, ◌+◌, ◌-◌, Bool, false, ℕ, nat_le, Option, None, Some, List, [], cond, take, get_or, if◌then◌else◌, unwrap_or, IfSome}
use Rattle.std.specs.List.{count_by, All}
use Rattle.std.specs.Option.{option_map}
use Rattle.gs_status.specs.Masks.{has}
use Rattle.gs_journal.specs.declared.entry.Entry.{Entry}
use Rattle.gs_journal.specs.History.{History, is_torn}
use Rattle.gs_turns.specs.declared.stance.Stance.{Stance}
use Rattle.gs_turns.specs.declared.stance.Stance.TheVariants.{Ready}
use Rattle.gs_turns.specs.Stances.{is_ready, is_ready_stance, stance_by}
use Rattle.gs_usage.specs.Uses.{mask_by, mask_in}
use Rattle.gs_usage.specs.declared.row.Row.{Row}
use Rattle.gs_usage.specs.declared.row.WaitChange.{WaitChange}

-- a thread that no entry was about
abbrev pub unseen : Row
unseen = record { ready_at = None; mask = 0 }

-- whether a thread waits that an entry left ready: no tear-down was behind it, if the last one was just before entry `torn`
abbrev pub is_behind : ℕ → Option ℕ → Bool
is_behind torn None = false
is_behind torn (Some n) = nat_le torn n

-- the CPUs that a thread waits for: those of its mask, or none if it does not wait
abbrev pub waits_for : ℕ → Row → ℕ
waits_for torn r = if is_behind torn r.ready_at then r.mask else 0

-- when a thread was left ready, behind an entry that leaves it so
abbrev pub ready_at_then : ℕ → Option Stance → Option ℕ → Option ℕ
ready_at_then n None o = o
ready_at_then n (Some Ready) o = Some n
ready_at_then n (Some _) o = None

-- what entry n makes of a thread
abbrev pub row_then : ℕ → ℕ → Entry → Row → Row
row_then n t e r = record { ready_at = ready_at_then n (stance_by t e) r.ready_at; mask = unwrap_or (mask_by t e) r.mask }

-- the threads by tid, and the place behind the last tear-down, or 0 if there was none
pub record ThreadsOf : Type 0 where
  pub rows : List Row
  pub torn : ℕ

abbrev pub row_of : ThreadsOf → ℕ → Row
row_of ts t = get_or ts.rows t unseen

-- those of a history in which nothing happened
abbrev pub nobody : ThreadsOf
nobody = record { rows = []; torn = 0 }

-- whether a thread waits
abbrev pub waits : ThreadsOf → ℕ → Bool
waits ts t = is_behind ts.torn (row_of ts t).ready_at

-- how many threads wait that may run on a CPU
abbrev pub waiting : ThreadsOf → ℕ → ℕ
waiting ts c = count_by (λ (r : Row). has (waits_for ts.torn r) c) ts.rows

-- nothing changes of what a thread waits for
abbrev pub no_change : WaitChange
no_change = record { before = 0; after = 0 }

-- whether a thread waits behind an entry
abbrev pub waits_then : ℕ → Entry → Bool → Bool
waits_then t e b = unwrap_or (option_map is_ready_stance (stance_by t e)) b

-- how many wait for a CPU behind an entry by which this changed of what one thread waits for
abbrev pub waiting_then : ℕ → Entry → WaitChange → ℕ → ℕ
waiting_then c e s w = if is_torn e then 0 else (w + cond (has s.after c) 1 0) - cond (has s.before c) 1 0

abbrev pub IsPastRow : ℕ → Row → Type 0
IsPastRow n r = IfSome r.ready_at (λ k. k < n)

-- the threads were left as they are by the first n entries
pub record ArePast (n : ℕ) (ts : ThreadsOf) : Type 0 where
  pub torn : ts.torn ≤ n
  pub rows : All (IsPastRow n) ts.rows

-- a list by tid has more room than another, and says the same
pub record IsLonger (old new : List Row) : Type 0 where
  pub same : (t : ℕ) → get_or new t unseen ≡ get_or old t unseen
  pub counts : (torn c : ℕ) → waiting (record { rows = new; torn = torn }) c ≡ waiting (record { rows = old; torn = torn }) c
  pub past : (n : ℕ) → All (IsPastRow n) old → All (IsPastRow n) new

-- these are the threads of the first n entries
pub record AreThreads (h : History) (n : ℕ) (ts : ThreadsOf) : Type 0 where
  pub ready : (t : ℕ) → waits ts t ≡ is_ready t (take n h)
  pub masks : (t : ℕ) → (row_of ts t).mask ≡ unwrap_or (mask_in (take n h) t) 0
  pub past : ArePast n ts
