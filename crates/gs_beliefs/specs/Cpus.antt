-- Whom an agent believes to run on each CPU, and which CPUs it may use.
use Rattle.std.specs.Prelude.{Bool, false, not, ◌&&◌, ◌==◌, ℕ, ◌+◌, min, nat_lt, Option, None, Some, is_none, List, length, map, replicate, slice_index_or, slice_set, if◌then◌else◌}
use Rattle.std.specs.List.{list_any}
use Rattle.gs_beliefs.specs.declared.running.Running.{Running}
use Rattle.gs_beliefs.specs.declared.running.TheConstants.{MOST_TICKS}

-- who is believed to run on each CPU; the thread that an uncollected stamp on each CPU names; the agent's own CPU (none while it attaches)
pub record Cpus : Type 0 where
  pub believed : List (Option Running)
  pub stamped : List (Option ℕ)
  pub agent : Option ℕ

-- so many CPUs, on none of which anybody is believed to run, with no stamp
abbrev pub unknown : ℕ → Option ℕ → Cpus
unknown cpus a = record { believed = replicate cpus None; stamped = replicate cpus None; agent = a }

-- who is believed to run on a CPU: nobody past the last one
abbrev pub believed_on : Cpus → ℕ → Option Running
believed_on s c = slice_index_or s.believed c None

-- the thread that an uncollected stamp on a CPU names: none past the last one
abbrev pub stamp_on : Cpus → ℕ → Option ℕ
stamp_on s c = slice_index_or s.stamped c None

-- whether a belief is of a thread
abbrev pub runs : ℕ → Option Running → Bool
runs t None = false
runs t (Some r) = r.tid == t

-- whether there is a number, and it is this one
abbrev pub is_just : ℕ → Option ℕ → Bool
is_just n None = false
is_just n (Some k) = k == n

-- whether some CPU is believed to run a thread
abbrev pub is_believed : Cpus → ℕ → Bool
is_believed s t = list_any (runs t) s.believed

-- whether some uncollected stamp names a thread
abbrev pub is_named : Cpus → ℕ → Bool
is_named s t = list_any (is_just t) s.stamped

-- whether the agent may use a CPU while the other class holds those that are taken. It is below the count, neither the agent's own nor taken, and has
-- no uncollected stamp
abbrev pub is_usable : Cpus → (ℕ → Bool) → ℕ → Bool
is_usable s taken c = nat_lt c (length s.believed) && (not (is_just c s.agent) && (not (taken c) && is_none (stamp_on s c)))

-- whether a CPU is usable and nobody is believed to run there
abbrev pub is_free : Cpus → (ℕ → Bool) → ℕ → Bool
is_free s taken c = is_usable s taken c && is_none (believed_on s c)

-- the belief of a CPU once a thread is known to run there no more
abbrev pub cleared_at : ℕ → Option Running → Option Running
cleared_at t o = if runs t o then None else o

-- the belief of a CPU once a thread has this number
abbrev pub raised_at : ℕ → ℕ → Option Running → Option Running
raised_at t n None = None
raised_at t n (Some r) = if r.tid == t then Some (record r { tseq = n }) else Some r

-- the belief of a CPU after one tick more, of which `MOST_TICKS` are counted
abbrev pub ticked : Option Running → Option Running
ticked None = None
ticked (Some r) = Some (record r { ticks = min MOST_TICKS (r.ticks + 1) })

-- a thread that begins to run at this number
abbrev pub running : ℕ → ℕ → Running
running t n = record { tid = t; tseq = n; ticks = 0 }

-- a thread runs nowhere
abbrev pub clears : ℕ → Cpus → Cpus
clears t s = record s { believed = map (cleared_at t) s.believed }

-- a thread that is believed to run has this number now
abbrev pub raises : ℕ → ℕ → Cpus → Cpus
raises t n s = record s { believed = map (raised_at t n) s.believed }

-- one tick more for whoever is believed to run on a CPU; past the last CPU nothing changes
abbrev pub ticks : ℕ → Cpus → Cpus
ticks c s = record s { believed = slice_set s.believed c (ticked (believed_on s c)) }

-- a thread begins to run on a CPU at this number, and runs nowhere else; past the last CPU nothing changes
abbrev pub places : ℕ → ℕ → ℕ → Cpus → Cpus
places c t n s =
    if nat_lt c (length s.believed) then record s { believed = slice_set (map (cleared_at t) s.believed) c (Some (running t n)) } else s

-- an uncollected stamp on a CPU names a thread; past the last CPU nothing changes
abbrev pub stamps : ℕ → ℕ → Cpus → Cpus
stamps c t s = record s { stamped = slice_set s.stamped c (Some t) }

-- a CPU has no uncollected stamp
abbrev pub unstamps : ℕ → Cpus → Cpus
unstamps c s = record s { stamped = slice_set s.stamped c None }
