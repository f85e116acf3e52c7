-- How a thread stands: the last entry that says something of it.
use Rattle.std.specs.Prelude.{Bool, true, false, ℕ, ◌==◌, Option, None, Some, if◌then◌else◌, unwrap_or}
use Rattle.gs_layout.specs.declared.facts.Class.{Class}
use Rattle.gs_layout.specs.declared.message.Change.{Change}
use Rattle.gs_layout.specs.declared.message.Change.TheVariants.{Created, Blocked, Wakeup, Preempted, Yield, Dead, Affinity}
use Rattle.gs_layout.specs.declared.message.Message.TheVariants.{Thread}
use Rattle.gs_journal.specs.declared.entry.Entry.{Entry}
use Rattle.gs_journal.specs.declared.entry.Entry.TheVariants.{Placed, Posted, Torn}
use Rattle.gs_journal.specs.History.{History}
use Rattle.gs_journal.specs.Standing.{latest}
use Rattle.gs_turns.specs.declared.stance.Stance.{Stance}
use Rattle.gs_turns.specs.declared.stance.Stance.TheVariants.{Ready, Running, Away}

-- how a change leaves its thread, if it changes that. A thread that is created runnable, woken, preempted, yields or is taken off its CPU by a new mask is
-- ready: it may run, and is on no CPU
abbrev pub stance_of_change : Change → Option Stance
stance_of_change (Created f) = if f.runnable then Some Ready else Some Away
stance_of_change (Blocked c) = Some Away
stance_of_change Wakeup = Some Ready
stance_of_change (Preempted c) = Some Ready
stance_of_change (Yield c) = Some Ready
stance_of_change (Dead c) = Some Away
stance_of_change (Affinity c off m) = if off then Some Ready else None

-- how an entry leaves a thread, if it changes that
abbrev pub stance_by : ℕ → Entry → Option Stance
stance_by t (Posted (Thread u s c)) = if u == t then stance_of_change c else None
stance_by t (Placed u s c g) = if u == t then Some Running else None
stance_by t Torn = Some Away
stance_by t _ = None

-- how a thread stands: as the last entry that changed it left it, and away if none did
unfoldable pub stance : History → ℕ → Stance
stance h t = unwrap_or (latest (stance_by t) h) Away

abbrev pub is_ready_stance : Stance → Bool
is_ready_stance Ready = true
is_ready_stance _ = false

-- whether a thread waits for a CPU
abbrev pub is_ready : ℕ → History → Bool
is_ready t h = is_ready_stance (stance h t)

-- the class that an entry gives a thread: a creation does
abbrev pub class_by : ℕ → Entry → Option Class
class_by t (Posted (Thread u s (Created f))) = if u == t then Some f.class else None
class_by t _ = None

-- a thread's class
unfoldable pub class_in : History → ℕ → Option Class
class_in h t = latest (class_by t) h

-- the CPU that an entry places a thread on
abbrev pub placed_at : ℕ → Entry → Option ℕ
placed_at t (Placed u s c g) = if u == t then Some c else None
placed_at t _ = None

-- the CPU that a thread was last placed on
unfoldable pub last_cpu : History → ℕ → Option ℕ
last_cpu h t = latest (placed_at t) h
