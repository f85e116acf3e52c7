-- Adding up the times that a CPU was used for something.
use Rattle.std.specs.Prelude.{◌≤◌, ◌+◌, ℕ, if◌then◌else◌}
use Rattle.gs_journal.specs.History.{History}
use Rattle.gs_usage.specs.Uses.{same_use, time_to}
use Rattle.gs_turns.specs.Times.{no_time}
use Rattle.gs_turns.specs.declared.time.Time.{Time}
use Rattle.gs_usage.specs.declared.usage.Usage.{Usage}
use Rattle.gs_usage.specs.declared.usage.Use.{Use}
use Rattle.gs_usage.specs.declared.usage.Use.TheVariants.{Other, Agent, Busy, Wanted, Idle}

abbrev pub unused : Usage
unused = record { busy = no_time; agent = no_time; other = no_time; wanted = no_time; idle = no_time }

-- the time of one use
abbrev pub time_in : Use → Usage → Time
time_in Other x = x.other
time_in Agent x = x.agent
time_in Busy x = x.busy
time_in Wanted x = x.wanted
time_in Idle x = x.idle

-- a time and so many entries and ticks more
abbrev pub plus : ℕ → ℕ → Time → Time
plus e t s = record { entries = s.entries + e; ticks = s.ticks + t }

-- the same, if they are of the use that the time is of
abbrev pub plus_if : Use → ℕ → ℕ → Use → Time → Time
plus_if v e t u s = if same_use u v then plus e t s else s

-- and so many entries and ticks of one use more
abbrev pub spend : Use → ℕ → ℕ → Usage → Usage
spend v e t x = record {
  busy = plus_if v e t Busy x.busy;
  agent = plus_if v e t Agent x.agent;
  other = plus_if v e t Other x.other;
  wanted = plus_if v e t Wanted x.wanted;
  idle = plus_if v e t Idle x.idle;
}

-- what a CPU was used for behind each of the first entries
abbrev pub usage_to : ℕ → History → ℕ → Usage
usage_to n h c = record { busy = time_to n Busy h c; agent = time_to n Agent h c; other = time_to n Other h c; wanted = time_to n Wanted h c; idle = time_to n Idle h c }

-- the entries of all uses together, and the ticks
abbrev pub all_entries : Usage → ℕ
all_entries x = x.busy.entries + x.agent.entries + x.other.entries + x.wanted.entries + x.idle.entries

abbrev pub all_ticks : Usage → ℕ
all_ticks x = x.busy.ticks + x.agent.ticks + x.other.ticks + x.wanted.ticks + x.idle.ticks

-- no time is above a bound
pub record AreAtMost (n : ℕ) (x : Usage) : Type 0 where
  pub entries : (u : Use) → (time_in u x).entries ≤ n
  pub ticks : (u : Use) → (time_in u x).ticks ≤ n
