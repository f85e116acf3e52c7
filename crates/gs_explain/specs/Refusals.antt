-- Why an event was refused.
use Rattle.std.specs.Prelude.{ℕ, suc, Option, None, Some, List, [], ◌∷◌, length, if◌then◌else◌}
use Rattle.gs_slots.specs.State.{Held, has_stamp}
use Rattle.gs_layout.specs.declared.refusal.Refusal.{Refusal}
use Rattle.gs_layout.specs.declared.refusal.Refusal.TheVariants as refusals
use Rattle.gs_kernel.specs.declared.command.Command.TheVariants as commands
use Rattle.gs_core.specs.declared.event.Event.{Event}
use Rattle.gs_core.specs.declared.event.Event.TheVariants as events
use Rattle.gs_reasons.specs.declared.sign.Sign.{Sign}
use Rattle.gs_reasons.specs.declared.sign.Sign.TheVariants as signs
use Rattle.gs_reasons.specs.Cause.{place_of}
use Rattle.gs_sentences.specs.Subject.{cpu_of, tid_of}
use Rattle.gs_sentences.specs.declared.numbers.Numbers.{Numbers}
use Rattle.gs_sentences.specs.declared.numbers.Waiting.{Waiting}
use Rattle.gs_sentences.specs.Told.{Refused}
use Rattle.gs_explain.specs.Moment.{Moment, cause_at}
use Rattle.gs_explain.specs.Landings.{last_for, line_at}

-- a thread that an agent does not know may live
abbrev pub no_thread_sign : Event (Unit {0}) → Option Sign
no_thread_sign (events.Stamp k t f) = None
no_thread_sign e = Some (signs.Death (tid_of e))

-- whose numbers are spent: the thread's, or those of the one on the CPU
abbrev pub spent_sign : Event (Unit {0}) → Sign
spent_sign (events.Kernel (commands.Thread t e)) = signs.About t
spent_sign e = signs.Seat (cpu_of e)

-- of what the reason of a refusal is
abbrev pub refusal_sign : Event (Unit {0}) → Refusal → Option Sign
refusal_sign e refusals.NoThread = no_thread_sign e
refusal_sign e refusals.NotRunning = Some (signs.Off (tid_of e))
refusal_sign e refusals.NotBlocked = Some (signs.Runs (tid_of e))
refusal_sign e refusals.EmptyMask = None
refusal_sign e refusals.BadCpu = None
refusal_sign e refusals.AgentThere = Some signs.Agent
refusal_sign e refusals.CpuTaken = Some (signs.Held (cpu_of e))
refusal_sign e refusals.NotTaken = Some (signs.Held (cpu_of e))
refusal_sign e refusals.NotActive = Some signs.Agent
refusal_sign e refusals.StillAttached = Some signs.Agent
refusal_sign e refusals.NotAttaching = Some signs.Agent
refusal_sign e refusals.SeqSpent = Some (spent_sign e)
refusal_sign e refusals.GenSpent = Some signs.Generation
refusal_sign e refusals.TidsSpent = Some signs.Created
refusal_sign e refusals.HistoryFull = None
refusal_sign e refusals.SlotOpen = None
refusal_sign e refusals.NoSuchTransaction = None
refusal_sign e refusals.Gone = Some signs.TornDown
refusal_sign e refusals.OutOfMemory = None

-- the transaction at a place waits in the slot of a CPU
abbrev pub waits : Moment → ℕ → Option ℕ → Option Waiting
waits x k None = None
waits x k (Some i) = Some (record { cpu = k; number = suc i; line = line_at x.stamped (Some i) })

-- the least CPU whose slot is stamped, of slots of which the first is that of CPU k
abbrev pub least_stamped : ℕ → List Held → Option ℕ
least_stamped k [] = None
least_stamped k (z ∷ zs) = if has_stamp z then Some k else least_stamped (suc k) zs

-- what waits in the slot of a CPU, if there is one
abbrev pub waits_on : Moment → Option ℕ → Option Waiting
waits_on x None = None
waits_on x (Some k) = waits x k (last_for k x.transactions)

-- what waits in the slot that an event would stamp, or in the first slot for which an agent does not leave
abbrev pub waiting_by : Moment → Event (Unit {0}) → Option Waiting
waiting_by x (events.Stamp k t f) = waits_on x (Some k)
waiting_by x (events.Kernel commands.Leave) = waits_on x (least_stamped 0 x.slots)
waiting_by x _ = None

abbrev pub waiting : Moment → Refusal → Option Waiting
waiting x refusals.SlotOpen = waiting_by x x.event
waiting x _ = None

abbrev pub numbers : Moment → Refusal → Numbers
numbers x f =
    record {
      cpus = x.settings.cpus;
      entries = length x.history;
      transactions = length x.transactions;
      limit = x.settings.history;
      page = x.page;
      waiting = waiting x f;
    }

-- why an event was refused
abbrev pub why_refused : Moment → Refusal → Refused
why_refused x f = record { refusal = f; event = x.event; cause = cause_at x (place_of (refusal_sign x.event f) x.history); numbers = numbers x f }
