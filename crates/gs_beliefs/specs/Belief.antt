-- What a message that applied, and what became of a stamp, change of what is believed.
use Rattle.std.specs.Prelude.{Bool, true, false, ◌==◌, ℕ, Option, None, Some, if◌then◌else◌}
use Rattle.gs_layout.specs.declared.message.Message.{Message}
use Rattle.gs_layout.specs.declared.message.Message.TheVariants.{Thread, TimerTick}
use Rattle.gs_layout.specs.declared.outcome.Outcome.{Outcome}
use Rattle.gs_layout.specs.declared.outcome.Outcome.TheVariants as outcomes
use Rattle.gs_layout.specs.Message.{takes_off_cpu}
use Rattle.gs_beliefs.specs.Cpus.{Cpus, cleared_at, raised_at, ticked, clears, raises, ticks, places}
use Rattle.gs_beliefs.specs.declared.running.Running.{Running}

-- a message that applied: a tick counts for its CPU. One that takes its thread off a CPU clears the thread's belief, and any other gives it the
-- message's number
abbrev pub hears : Message → Cpus → Cpus
hears (TimerTick c) s = ticks c s
hears (Thread t n change) s = if takes_off_cpu change then clears t s else raises t n s

-- the belief of CPU c after such a message
abbrev pub heard_at : ℕ → Message → Option Running → Option Running
heard_at c (TimerTick d) o = if c == d then ticked o else o
heard_at c (Thread t n change) o = if takes_off_cpu change then cleared_at t o else raised_at t n o

-- whether an outcome says that the thread is on a CPU
abbrev pub shows_place : Outcome → Bool
shows_place outcomes.Placed = true
shows_place outcomes.AlreadyPlaced = true
shows_place _ = false

-- what became of a stamp: the outcome, the CPU that the thread was then on, if any, the thread, and the number that was stamped
abbrev pub after_outcome : Outcome → Option ℕ → ℕ → ℕ → Cpus → Cpus
after_outcome o None t n s = s
after_outcome o (Some c) t n s = if shows_place o then places c t n s else s
