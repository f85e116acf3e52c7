-- What turns come to.
use Rattle.std.specs.Prelude.{◌≡◌, ℕ, ◌==◌, Bool, true, false, not, Option, None, Some, List, [], length, map, IfNone, IfSome}
use Rattle.std.specs.List.{count_by, sum_by}
use Rattle.gs_layout.specs.declared.facts.Class.{Class}
use Rattle.gs_layout.specs.declared.facts.Class.TheVariants.{Zero, One}
use Rattle.gs_timeline.specs.declared.ending.Ending.{Ending}
use Rattle.gs_timeline.specs.declared.ending.Ending.TheVariants.{Preempted}
use Rattle.gs_turns.specs.Times.{in_word}
use Rattle.gs_turns.specs.Turns.{ran, waited}
use Rattle.gs_turns.specs.declared.time.Time.{Time}
use Rattle.gs_turns.specs.declared.turn.Turn.{Turn}
use Rattle.gs_tallies.specs.declared.sums.Sums.{Sums}
use Rattle.gs_tallies.specs.declared.tally.Tally.{Tally}
use Rattle.gs_tallies.specs.Spreads.{IsSpread}

abbrev pub is_preemption : Ending → Bool
is_preemption Preempted = true
is_preemption _ = false

-- whether a stay was preempted
abbrev pub is_preempted : Turn → Bool
is_preempted t = is_preemption t.ending

abbrev pub is_another : ℕ → Option ℕ → Bool
is_another c None = false
is_another c (Some d) = not (d == c)

-- whether a stay is on another CPU than the thread's stay before
abbrev pub is_migrated : Turn → Bool
is_migrated t = is_another t.stay.cpu t.before

abbrev pub waited_ticks : Turn → ℕ
waited_ticks t = t.waited_ticks

abbrev pub ran_ticks : Turn → ℕ
ran_ticks t = t.ran_ticks

-- a time that turns take together, by how many entries and how many ticks each takes
abbrev pub time_of : (Turn → ℕ) → (Turn → ℕ) → List Turn → Time
time_of entries ticks ts = record { entries = in_word (sum_by entries ts); ticks = in_word (sum_by ticks ts) }

-- how many turns there are, how long they ran and waited, and how many were preempted and migrated
abbrev pub sums_of : List Turn → Sums
sums_of ts = record {
  stays = length ts;
  ran = time_of ran ran_ticks ts;
  waited = time_of waited waited_ticks ts;
  preempted = count_by is_preempted ts;
  migrated = count_by is_migrated ts;
}

-- this is what turns come to: their sums, and how their waits are spread, in entries and in ticks. There is no spread of no turns
pub record IsTally (ts : List Turn) (t : Tally) : Type 0 where
  pub sums : t.sums ≡ sums_of ts
  pub entries : IfSome t.waits_in_entries (IsSpread (map waited ts))
  pub ticks : IfSome t.waits_in_ticks (IsSpread (map waited_ticks ts))
  pub no_entries : IfNone t.waits_in_entries (ts ≡ [])
  pub no_ticks : IfNone t.waits_in_ticks (ts ≡ [])

-- what no turns come to
abbrev pub no_tally : Tally
no_tally = record { sums = sums_of []; waits_in_entries = None; waits_in_ticks = None }

-- whether two classes are the same, or none is known of both
abbrev pub same_class : Option Class → Option Class → Bool
same_class (Some Zero) (Some Zero) = true
same_class (Some One) (Some One) = true
same_class None None = true
same_class _ _ = false

-- whether a turn is of a thread of a class
abbrev pub is_of_class : Option Class → Turn → Bool
is_of_class k t = same_class t.class k
