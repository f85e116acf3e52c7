-- Why an event was refused, as a sentence.
use Rattle.std.specs.Prelude.{Bool, true, false, ℕ, ◌-◌, ◌==◌, Option, None, Some, List, ◌++◌, decimal, if◌then◌else◌}
use Rattle.gs_layout.specs.declared.refusal.Refusal.{Refusal}
use Rattle.gs_layout.specs.declared.refusal.Refusal.TheVariants as refusals
use Rattle.gs_journal.specs.declared.entry.Entry.{Entry}
use Rattle.gs_journal.specs.declared.entry.Entry.TheVariants.{Begin}
use Rattle.gs_kernel.specs.declared.command.Command.TheVariants as commands
use Rattle.gs_core.specs.declared.event.Event.{Event}
use Rattle.gs_core.specs.declared.event.Event.TheVariants as events
use Rattle.gs_sentences.specs.Told.{Cause, Refused}
use Rattle.gs_sentences.specs.declared.numbers.Numbers.{Numbers}
use Rattle.gs_sentences.specs.declared.numbers.Waiting.{Waiting}
use Rattle.gs_sentences.specs.Shared.{agent_text, dead_text, held_text, place_text, seat_text, since_text, torn_text}
use Rattle.gs_sentences.specs.Landed.{full_text}
use Rattle.gs_sentences.specs.Subject.{cpu_of, mask_of, tid_of}
use Rattle.gs_sentences.specs.declared.words.Words.TheVariants as words
use Rattle.gs_sentences.specs.Words.{said}

-- no such thread: the agent does not know it, or it is no more or never was
abbrev pub no_thread_text : Event (Unit {0}) → Option Cause → List ℕ
no_thread_text (events.Stamp k t f) c = said words.TheAgentKnowsOfNoThread ++ decimal t
no_thread_text e c = dead_text (tid_of e) c

-- a thread that is on no CPU
abbrev pub off_text : ℕ → Option Cause → List ℕ
off_text t None = said words.Thread ++ decimal t ++ said words.WasNeverPlaced
off_text t (Some c) = said words.Thread ++ decimal t ++ said words.IsOnNoCpuSinceLine ++ place_text c

-- a mask of no CPU, or with one past the last
abbrev pub bad_mask_text : ℕ → ℕ → List ℕ
bad_mask_text m cpus =
    if m == 0 then said words.TheMaskNamesNoCpu else said words.Mask ++ decimal m ++ said words.NamesACpuPastTheLastWhichIs ++ decimal (cpus - 1)

-- a CPU past the last
abbrev pub bad_cpu_text : ℕ → ℕ → List ℕ
bad_cpu_text k cpus = said words.ThereIsNoCpu ++ decimal k ++ said words.TheLastIs ++ decimal (cpus - 1)

-- a thread that may run
abbrev pub runs_text : ℕ → Option Cause → List ℕ
runs_text t c = said words.Thread ++ decimal t ++ said words.MayRun ++ since_text c

-- a CPU that the other class does not hold
abbrev pub given_text : ℕ → Option Cause → List ℕ
given_text k None = said words.TheOtherClassNeverTookCpu ++ decimal k
given_text k (Some c) = said words.TheOtherClassGaveCpu ++ decimal k ++ said words.BackOnLine ++ place_text c

-- whether the agent that attaches was given its last page
abbrev pub page_text : ℕ → Option ℕ → List ℕ
page_text g None = said words.Generation ++ decimal g ++ said words.AttachesAndWasNotGivenItsLastPage
page_text g (Some l) = said words.Generation ++ decimal g ++ said words.WasGivenItsLastPageOnLine ++ decimal l

abbrev pub attaching_by : Cause → Entry → Option ℕ → List ℕ
attaching_by c (Begin g) page = page_text g page
attaching_by c e page = agent_text (Some c)

-- why there is no agent that attaches at this point
abbrev pub attaching_text : Option Cause → Option ℕ → List ℕ
attaching_text None page = agent_text None
attaching_text (Some c) page = attaching_by c c.entry page

-- the last number of a thread: of the one that is named, or of the one on the CPU
abbrev pub spent_text : Event (Unit {0}) → Option Cause → List ℕ
spent_text (events.Kernel (commands.Thread t e)) c = said words.Thread ++ decimal t ++ said words.HasItsLastSequenceNumber ++ since_text c
spent_text e c = seat_text (cpu_of e) c ++ said words.AndHasItsLastSequenceNumber

-- the last generation, and the last tid
abbrev pub last_text : List ℕ → Option Cause → List ℕ
last_text word None = word
last_text word (Some c) = word ++ said words.OfLine ++ place_text c

-- whether it is the list of transactions that is full
abbrev pub stamps : Event (Unit {0}) → Bool
stamps (events.Stamp k t f) = true
stamps events.Decide = true
stamps _ = false

abbrev pub full_by : Bool → Numbers → List ℕ
full_by true n = said words.ThereAre ++ decimal n.transactions ++ said words.OfAtMost ++ decimal n.limit ++ said words.TransactionsAndTooFewAreLeft
full_by false n = full_text n.entries n.limit

-- what waits in a slot
abbrev pub waiting_text : Option Waiting → List ℕ
waiting_text None = said words.ASlotIsNotIdle
waiting_text (Some w) = said words.Transaction ++ decimal w.number ++ said words.OfLine ++ decimal w.line ++ said words.WaitsInTheSlotOfCpu ++ decimal w.cpu

-- which transactions there are
abbrev pub transactions_text : ℕ → List ℕ
transactions_text n = if n == 0 then said words.NoTransactionWasStampedYet else said words.TheLastTransactionHasNumber ++ decimal n

abbrev pub refusal_reason : Refused → Refusal → List ℕ
refusal_reason x refusals.NoThread = no_thread_text x.event x.cause
refusal_reason x refusals.NotRunning = off_text (tid_of x.event) x.cause
refusal_reason x refusals.NotBlocked = runs_text (tid_of x.event) x.cause
refusal_reason x refusals.EmptyMask = bad_mask_text (mask_of x.event) x.numbers.cpus
refusal_reason x refusals.BadCpu = bad_cpu_text (cpu_of x.event) x.numbers.cpus
refusal_reason x refusals.AgentThere = agent_text x.cause
refusal_reason x refusals.CpuTaken = held_text (cpu_of x.event) x.cause
refusal_reason x refusals.NotTaken = given_text (cpu_of x.event) x.cause
refusal_reason x refusals.NotActive = agent_text x.cause
refusal_reason x refusals.StillAttached = agent_text x.cause
refusal_reason x refusals.NotAttaching = attaching_text x.cause x.numbers.page
refusal_reason x refusals.SeqSpent = spent_text x.event x.cause
refusal_reason x refusals.GenSpent = last_text (said words.NoGenerationFollowsThat) x.cause
refusal_reason x refusals.TidsSpent = last_text (said words.NoTidFollowsThat) x.cause
refusal_reason x refusals.HistoryFull = full_by (stamps x.event) x.numbers
refusal_reason x refusals.SlotOpen = waiting_text x.numbers.waiting
refusal_reason x refusals.NoSuchTransaction = transactions_text x.numbers.transactions
refusal_reason x refusals.Gone = torn_text x.cause
refusal_reason x refusals.OutOfMemory = said words.OutOfMemory

-- why an event was refused
abbrev pub refused_text : Refused → List ℕ
refused_text x = refusal_reason x x.refusal
