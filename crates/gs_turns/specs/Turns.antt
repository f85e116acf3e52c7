-- The turns of a history: each stay of a thread on a CPU, with the wait before it.
use Rattle.std.specs.Prelude.{◌≡◌, ◌-◌, ℕ, List, map, slice_get, unwrap_or}
use Rattle.std.specs.List.Sorted.{IsNonDecreasingBy, IsPermutation}
use Rattle.gs_journal.specs.History.{History}
use Rattle.gs_timeline.specs.Endings.{ending_of}
use Rattle.gs_timeline.specs.Stays.{all_stays}
use Rattle.gs_timeline.specs.declared.stay.Stay.{Stay}
use Rattle.gs_turns.specs.Knowing.{known}
use Rattle.gs_turns.specs.Ticked.{ticked}
use Rattle.gs_turns.specs.declared.stance.Known.{Known}
use Rattle.gs_turns.specs.declared.turn.Turn.{Turn}

-- since which entry the thread of a stay was ready, up to the entry that placed it: the place of that one, if it was not ready
abbrev pub waits_since : Known → Stay → ℕ
waits_since k s = unwrap_or k.since s.from

-- the turn of a stay, by what was known of its thread behind the entries before it
abbrev pub turn_with : History → Known → Stay → Turn
turn_with h k s = record {
  stay = s;
  since = waits_since k s;
  class = k.class;
  before = k.cpu;
  waited_ticks = ticked h s.cpu (waits_since k s) s.from;
  ran_ticks = ticked h s.cpu s.from s.to;
  ending = ending_of (slice_get h s.to);
}

-- the turn of a stay
unfoldable pub turn_of : History → Stay → Turn
turn_of h s = turn_with h (known h s.from s.tid) s

-- these are the turns on so many CPUs: one for each stay, in order of the entries that began them
pub record IsTurns (cpus : ℕ) (h : History) (turns : List Turn) : Type 0 where
  pub order : List Stay
  pub all : IsPermutation (all_stays h cpus) order
  pub rising : IsNonDecreasingBy (λ (s : Stay). s.from) order
  pub is : turns ≡ map (turn_of h) order

-- how many entries a thread waited for its stay, and how many it stayed
abbrev pub waited : Turn → ℕ
waited t = t.stay.from - t.since

abbrev pub ran : Turn → ℕ
ran t = t.stay.to - t.stay.from
