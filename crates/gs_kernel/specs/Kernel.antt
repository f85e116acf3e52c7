-- What the kernel returns, and what it leaves.
use Rattle.std.specs.Prelude.{Bool, false, not, ◌||◌, ℕ, ◌+◌, ◌-◌, ◌≡◌, ◌==◌, nat_le, Option, None, Some, List, [], ◌∷◌, length, slice_get, if◌then◌else◌, is_none, is_some, unwrap_or}
use Rattle.std.specs.Option.{option_map}
use Rattle.gs_layout.specs.declared.facts.Facts.{Facts}
use Rattle.gs_layout.specs.declared.message.Change.{Change}
use Rattle.gs_layout.specs.declared.message.Change.TheVariants.{Created, Blocked, Wakeup, Preempted, Yield, Dead, Affinity}
use Rattle.gs_layout.specs.declared.message.TheConstants.{MOST_TIDS}
use Rattle.gs_layout.specs.declared.message.Message.{Message}
use Rattle.gs_layout.specs.declared.message.Message.TheVariants.{Thread}
use Rattle.gs_layout.specs.declared.refusal.Refusal.{Refusal}
use Rattle.gs_layout.specs.declared.refusal.Refusal.TheVariants as refusals
use Rattle.gs_journal.specs.declared.entry.Entry.{Entry}
use Rattle.gs_journal.specs.declared.entry.Entry.TheVariants.{Torn}
use Rattle.gs_status.specs.Masks.{has, has_past, has_none}
use Rattle.gs_journal.specs.History.{History, created, seq, record_in, on, at, active, attaching, generation, taken, torn}
use Rattle.gs_kernel.specs.declared.settings.Settings.{Settings}
use Rattle.gs_kernel.specs.declared.settings.TheConstants.{LAST_TSEQ, MOST_GENERATION}
use Rattle.gs_kernel.specs.declared.thread_event.ThreadEvent.{ThreadEvent}
use Rattle.gs_kernel.specs.declared.thread_event.ThreadEvent.TheVariants as happens
use Rattle.gs_kernel.specs.First.{first_that}
use Rattle.gs_threads.specs.Rows.{is_live}
use Rattle.gs_kernel.specs.Threads.{is_runnable}

-- What a kernel is to its callers: its numbers, its history, and how many more entries may be appended and threads created with no more memory.
-- Beside that it is the end of the ring that it posts to, and whether the last page was given since the last begin.
pub record KernelOf (P : Type 0) : Type 0 where
  pub settings : Settings
  pub history : List Entry
  pub room : ℕ
  pub rows : ℕ
  pub poster : P
  pub paged : Bool

-- the kernels are the same, their rings aside
pub record SameKernel {P : Type 0} (a b : KernelOf P) : Type 0 where
  pub settings : b.settings ≡ a.settings
  pub history : b.history ≡ a.history
  pub room : b.room ≡ a.room
  pub rows : b.rows ≡ a.rows
  pub pages : b.paged ≡ a.paged

-- the last thing that happened: of a command that was done, what it added last
abbrev pub last_entry : History → Entry
last_entry h = unwrap_or (slice_get h (length h - 1)) Torn

-- a mask that names no CPU, or one past the last
abbrev pub is_bad_mask : Settings → ℕ → Bool
is_bad_mask s mask = has_none mask || has_past mask s.cpus

-- this many additional entries do not fit into the journal
abbrev pub is_full : Settings → History → ℕ → Bool
is_full s h n = nat_le (s.history + 1) (length h + n)

-- refusals specific to a creation, in order: the mask has no CPU or one that there is not; all tids are spent
unfoldable pub create_refusal : Settings → History → Facts → Option Refusal
create_refusal s h f =
    first_that ((is_bad_mask s f.mask, Some refusals.EmptyMask) ∷ (nat_le MOST_TIDS (length (created h)), Some refusals.TidsSpent) ∷ []) None

-- the refusal specific to a tick: there is no such CPU
unfoldable pub tick_refusal : Settings → ℕ → Option Refusal
tick_refusal s c = first_that ((nat_le s.cpus c, Some refusals.BadCpu) ∷ []) None

-- a thread lives
abbrev pub lives : History → ℕ → Bool
lives h t = is_live (record_in h t)

-- a thread whose sequence number is the last one: no message about it can be numbered
abbrev pub is_spent : Settings → History → ℕ → Bool
is_spent s h t = nat_le LAST_TSEQ (seq s.first_tseq h t)

-- the refusal specific to one kind of event, of a thread that is on this CPU, if any, and may run or not. A block or a yield: it is on no
-- CPU. A wake: it may run already. A new mask: the mask is bad. A death has none
abbrev pub event_refusal : Settings → Option ℕ → Bool → ThreadEvent → Option Refusal
event_refusal s there runs happens.Block = if is_some there then None else Some refusals.NotRunning
event_refusal s there runs happens.Wake = if runs then Some refusals.NotBlocked else None
event_refusal s there runs happens.Yield = if is_some there then None else Some refusals.NotRunning
event_refusal s there runs happens.Die = None
event_refusal s there runs (happens.Affinity mask) = if is_bad_mask s mask then Some refusals.EmptyMask else None

-- whether the active agent is on a CPU
abbrev pub is_agent_on : ℕ → Option (ℕ × ℕ) → Bool
is_agent_on c None = false
is_agent_on c (Some a) = a.1 == c

-- Gone if the enclave was torn down, and else another refusal: each list of refusals begins so
abbrev pub unless_torn : History → Option Refusal → Option Refusal
unless_torn h other = first_that ((torn h, Some refusals.Gone) ∷ []) other

-- the first of two refusals, if either applies
abbrev pub or_else : Option Refusal → Option Refusal → Option Refusal
or_else (Some r) later = Some r
or_else None later = later

-- refusals specific to what happens to a thread, in order: no such thread lives; the one of its kind of event; the thread's sequence
-- numbers are spent
unfoldable pub thread_refusal : Settings → History → ℕ → ThreadEvent → Option Refusal
thread_refusal s h t e =
    first_that ((not (lives h t), Some refusals.NoThread) ∷ [])
    (or_else (event_refusal s (at s.cpus h t) (is_runnable (record_in h t)) e) (first_that ((is_spent s h t, Some refusals.SeqSpent) ∷ []) None))

-- whether a thread on this CPU, if any, has to leave it under a new mask
abbrev pub must_leave : Option ℕ → ℕ → Bool
must_leave None mask = false
must_leave (Some c) mask = not (has mask c)

-- what the message of an event says of a thread that is on this CPU, if any
abbrev pub change_by : Option ℕ → ThreadEvent → Change
change_by there happens.Block = Blocked (unwrap_or there 0)
change_by there happens.Wake = Wakeup
change_by there happens.Yield = Yield (unwrap_or there 0)
change_by there happens.Die = Dead there
change_by there (happens.Affinity mask) = Affinity there (must_leave there mask) mask

-- the next message about a thread
abbrev pub next_about : Settings → History → ℕ → Change → Message
next_about s h t c = Thread t (seq s.first_tseq h t + 1) c

-- the message of an event
abbrev pub happening : Settings → History → ℕ → ThreadEvent → Message
happening s h t e = next_about s h t (change_by (at s.cpus h t) e)

-- whether the thread on a CPU, if there is one, can have no more messages
abbrev pub is_spent_there : Settings → History → Option ℕ → Bool
is_spent_there s h None = false
is_spent_there s h (Some t) = is_spent s h t

-- refusals specific to Take, in order: there is no such CPU; the active agent is on it; it is taken; the sequence numbers of the thread
-- there are spent
unfoldable pub take_refusal : Settings → History → ℕ → Option Refusal
take_refusal s h c =
    first_that (
    (nat_le s.cpus c, Some refusals.BadCpu)
    ∷ (is_agent_on c (active h), Some refusals.AgentThere)
    ∷ (taken h c, Some refusals.CpuTaken)
    ∷ (is_spent_there s h (on h c), Some refusals.SeqSpent)
    ∷ []
    ) None

-- refusals specific to giving a CPU back, in order: there is no such CPU; the other class does not hold it
unfoldable pub give_refusal : Settings → History → ℕ → Option Refusal
give_refusal s h c = first_that ((nat_le s.cpus c, Some refusals.BadCpu) ∷ (not (taken h c), Some refusals.NotTaken) ∷ []) None

-- whether a generation is the last one, so that none follows it
abbrev pub is_last_generation : Option ℕ → Bool
is_last_generation None = false
is_last_generation (Some g) = g == MOST_GENERATION

-- refusals specific to a hand-off to a CPU, in order: no agent is active; those of a taking; the generation is the last one
unfoldable pub hand_off_refusal : Settings → History → ℕ → Option Refusal
hand_off_refusal s h c =
    first_that ((is_none (active h), Some refusals.NotActive) ∷ [])
    (or_else (take_refusal s h c) (first_that ((is_last_generation (generation h), Some refusals.GenSpent) ∷ []) None))

-- the generation that comes next: one more than the last
abbrev pub next_generation : History → ℕ
next_generation h = unwrap_or (generation h) 0 + 1

-- PREEMPTED of the thread on a CPU, if there is one
abbrev pub preemption : Settings → History → ℕ → Option Message
preemption s h c = option_map (λ t. next_about s h t (Preempted c)) (on h c)

-- the tid of the next thread: one more than the count of creations
abbrev pub new_tid : History → ℕ
new_tid h = length (created h) + 1

-- the first message about a new thread
abbrev pub creation : ℕ → History → Facts → Message
creation first h f = Thread (new_tid h) (first + 1) (Created f)

-- an agent is active, or one attaches
abbrev pub has_agent : History → Bool
has_agent h = is_some (active h) || is_some (attaching h)

-- what an Err says: the first refusal whose condition holds, or out of memory if none holds
abbrev pub IsRefusal : Option Refusal → Refusal → Type 0
IsRefusal (Some f) e = e ≡ f
IsRefusal None e = e ≡ refusals.OutOfMemory
