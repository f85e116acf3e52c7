-- The lines of replies.
use Rattle.std.specs.Prelude.{Bool, true, false, ℕ, ◌+◌, List, [], ◌∷◌, ◌++◌, length, codes, decimal, flat_map, if◌then◌else◌, ◌==◌, Option, None, Some}
use Rattle.gs_layout.specs.declared.refusal.Refusal.{Refusal}
use Rattle.gs_layout.specs.declared.refusal.Refusal.TheVariants as refusals
use Rattle.gs_layout.specs.declared.outcome.Outcome.{Outcome}
use Rattle.gs_layout.specs.declared.outcome.Outcome.TheVariants as outcomes
use Rattle.gs_layout.specs.declared.facts.Facts.{Facts}
use Rattle.gs_layout.specs.declared.facts.Class.{Class}
use Rattle.gs_layout.specs.declared.facts.Class.TheVariants.{Zero, One}
use Rattle.gs_layout.specs.declared.known.Known.{Known}
use Rattle.gs_layout.specs.declared.name.Name.{Name}
use Rattle.gs_layout.specs.declared.kind.Kind.{Kind}
use Rattle.gs_layout.specs.declared.kind.Kind.TheVariants as kinds
use Rattle.gs_layout.specs.declared.message.Change.{Change}
use Rattle.gs_layout.specs.declared.message.Change.TheVariants.{Created, Blocked, Wakeup, Preempted, Yield, Dead, Affinity}
use Rattle.gs_layout.specs.declared.message.Message.{Message}
use Rattle.gs_layout.specs.declared.message.Message.TheVariants.{Thread, TimerTick}
use Rattle.gs_layout.specs.Message.{tseq_of}
use Rattle.gs_layout.specs.Spelling.{kind_of, tid_of, cpu_of}
use Rattle.gs_journal.specs.declared.entry.Entry.{Entry}
use Rattle.gs_journal.specs.declared.entry.Entry.TheVariants.{Posted, Placed, Role, Begin, Left, Taken, Given, Torn}
use Rattle.gs_kernel.specs.declared.landing.Landing.{Landing}
use Rattle.gs_dump.specs.declared.record.DumpRecord.{DumpRecord}
use Rattle.gs_agent.specs.declared.drained.Drained.{Drained}
use Rattle.gs_agent.specs.declared.drained.Stop.{Stop}
use Rattle.gs_agent.specs.declared.drained.Stop.TheVariants as stops
use Rattle.gs_policy.specs.declared.choice.Choice.{Choice}
use Rattle.gs_replies.specs.declared.reply.Reply.{Reply}
use Rattle.gs_replies.specs.declared.reply.Reply.TheVariants as replies

-- each line ends with a newline
abbrev pub line : List ℕ → List ℕ
line text = text ++ 10 ∷ []

-- the number and the name of a refusal
abbrev pub refusal_text : Refusal → List ℕ
refusal_text refusals.NoThread = codes "1 NoThread"
refusal_text refusals.NotRunning = codes "2 NotRunning"
refusal_text refusals.NotBlocked = codes "3 NotBlocked"
refusal_text refusals.EmptyMask = codes "4 EmptyMask"
refusal_text refusals.BadCpu = codes "5 BadCpu"
refusal_text refusals.AgentThere = codes "6 AgentThere"
refusal_text refusals.CpuTaken = codes "7 CpuTaken"
refusal_text refusals.NotTaken = codes "8 NotTaken"
refusal_text refusals.NotActive = codes "9 NotActive"
refusal_text refusals.StillAttached = codes "10 StillAttached"
refusal_text refusals.NotAttaching = codes "11 NotAttaching"
refusal_text refusals.SeqSpent = codes "12 SeqSpent"
refusal_text refusals.GenSpent = codes "13 GenSpent"
refusal_text refusals.TidsSpent = codes "14 TidsSpent"
refusal_text refusals.HistoryFull = codes "15 HistoryFull"
refusal_text refusals.SlotOpen = codes "16 SlotOpen"
refusal_text refusals.NoSuchTransaction = codes "17 NoSuchTransaction"
refusal_text refusals.Gone = codes "18 Gone"
refusal_text refusals.OutOfMemory = codes "19 OutOfMemory"

-- the name of an outcome: its words, in lower case, put together
abbrev pub outcome_text : Outcome → List ℕ
outcome_text outcomes.Placed = codes "placed"
outcome_text outcomes.Gone = codes "gone"
outcome_text outcomes.Displaced = codes "displaced"
outcome_text outcomes.NoThread = codes "nothread"
outcome_text outcomes.Stale = codes "stale"
outcome_text outcomes.NotRunnable = codes "notrunnable"
outcome_text outcomes.AlreadyPlaced = codes "alreadyplaced"
outcome_text outcomes.NotAllowed = codes "notallowed"
outcome_text outcomes.CpuIsAgent = codes "cpuisagent"
outcome_text outcomes.CpuTaken = codes "cputaken"
outcome_text outcomes.CpuBusy = codes "cpubusy"
outcome_text outcomes.SeqSpent = codes "seqspent"
outcome_text outcomes.HistoryFull = codes "historyfull"
outcome_text outcomes.Malformed = codes "malformed"
outcome_text outcomes.GroupFailed = codes "groupfailed"

-- a thread's tid and a sequence number of the thread, behind a word
unfoldable pub thread_text : List ℕ → ℕ → ℕ → List ℕ
thread_text word t s = word ++ codes " " ++ decimal t ++ codes " seq " ++ decimal s

-- what became of a transaction
abbrev pub landed_text : Landing → List ℕ
landed_text a = outcome_text a.outcome ++ codes " " ++ decimal a.tid ++ codes " seq " ++ decimal a.seen

abbrev pub landing_text : Landing → List ℕ
landing_text a = codes "cpu " ++ decimal a.cpu ++ codes " " ++ landed_text a

-- a late landing is told of by the transaction's number
abbrev pub late_text : ℕ → Landing → List ℕ
late_text n a = codes "late " ++ decimal n ++ codes " " ++ landed_text a

-- the line behind landings that tore the enclave down
abbrev pub torn_line : Bool → List ℕ
torn_line true = line (codes "torn")
torn_line false = []

-- a part that is only there if its number is not 0
abbrev pub unless_zero : List ℕ → ℕ → List ℕ
unless_zero text n = if n == 0 then [] else text ++ decimal n

-- only a gap is told of: a drain that stopped as it was out of memory has no line
abbrev pub stop_text : Option Stop → List ℕ
stop_text None = []
stop_text (Some stops.Gap) = codes " stopped gap"
stop_text (Some stops.Memory) = []

abbrev pub drained_text : Drained → List ℕ
drained_text d = codes "drained " ++ decimal d.count ++ unless_zero (codes " skipped ") d.skipped ++ unless_zero (codes " orphans ") d.orphans ++ stop_text d.stop

-- the lines of landings, one for each
abbrev pub landing_lines : List Landing → List ℕ
landing_lines landings = flat_map (λ a. line (landing_text a)) landings

-- whether a thread takes the CPU from somebody: a word that is only there if it does
abbrev pub preempt_text : Bool → List ℕ
preempt_text true = codes " preempt"
preempt_text false = []

-- a choice that was stamped, by its transaction's number
abbrev pub choice_text : ℕ → Choice → List ℕ
choice_text n x = codes "stamped " ++ decimal n ++ codes " cpu " ++ decimal x.cpu ++ codes " thread " ++ decimal x.tid ++ preempt_text x.preempt

-- the lines of choices, one for each, whose numbers are one and those that follow it
abbrev pub choice_lines : ℕ → List Choice → List ℕ
choice_lines n [] = []
choice_lines n (x ∷ xs) = line (choice_text n x) ++ choice_lines (n + 1) xs

-- how many choices a decision stamped
abbrev pub decided_text : List Choice → List ℕ
decided_text xs = codes "decided " ++ decimal (length xs)

-- the name of a kind of message: its word, in lower case
abbrev pub kind_text : Kind → List ℕ
kind_text kinds.Created = codes "created"
kind_text kinds.Blocked = codes "blocked"
kind_text kinds.Wakeup = codes "wakeup"
kind_text kinds.Preempted = codes "preempted"
kind_text kinds.Yield = codes "yield"
kind_text kinds.Dead = codes "dead"
kind_text kinds.Affinity = codes "affinity"
kind_text kinds.TimerTick = codes "tick"

-- a CPU, or `-` for none
abbrev pub cpu_text : Option ℕ → List ℕ
cpu_text None = codes "-"
cpu_text (Some c) = decimal c

-- a message that waits: what it is about is 0 for a tick, as is its sequence number
abbrev pub message_text : Message → List ℕ
message_text m = codes "unread " ++ kind_text (kind_of m) ++ codes " " ++ decimal (tid_of m) ++ codes " seq " ++ decimal (tseq_of m) ++ codes " cpu " ++ cpu_text (cpu_of m)

-- the lines of messages that wait, one for each, in order
abbrev pub message_lines : List Message → List ℕ
message_lines messages = flat_map (λ m. line (message_text m)) messages

-- what is said to have happened to a thread, by its message
abbrev pub change_text : Change → List ℕ
change_text (Created f) = codes "created"
change_text (Blocked c) = codes "blocked"
change_text Wakeup = codes "woken"
change_text (Preempted c) = codes "preempted"
change_text (Yield c) = codes "yielded"
change_text (Dead c) = codes "dead"
change_text (Affinity c off m) = codes "affinity"

-- the CPU that a thread was taken off by a new mask
abbrev pub off_text : Change → List ℕ
off_text (Affinity (Some c) true m) = codes " off " ++ decimal c
off_text _ = []

abbrev pub posted_text : Message → List ℕ
posted_text (Thread t s c) = change_text c ++ codes " " ++ decimal t ++ codes " seq " ++ decimal s ++ off_text c
posted_text (TimerTick c) = codes "tick " ++ decimal c

-- an agent that became active, and one that began to attach
abbrev pub role_text : ℕ → ℕ → List ℕ
role_text g c = codes "agent " ++ decimal c ++ codes " generation " ++ decimal g

abbrev pub begin_text : ℕ → List ℕ
begin_text g = codes "begun" ++ codes " generation " ++ decimal g

-- where the next page begins, or that there is none
abbrev pub next_text : Option ℕ → List ℕ
next_text None = codes " end"
next_text (Some t) = codes " next " ++ decimal t

-- a page, of so many threads
abbrev pub page_text : ℕ → Option ℕ → List ℕ
page_text n next = codes "page " ++ decimal n ++ next_text next

-- an entry of the journal
abbrev pub entry_text : Entry → List ℕ
entry_text (Posted m) = posted_text m
entry_text (Placed t s c g) = codes "placed " ++ decimal t ++ codes " seq " ++ decimal s ++ codes " cpu " ++ decimal c ++ codes " generation " ++ decimal g
entry_text (Role g c) = role_text g c
entry_text (Begin g) = begin_text g
entry_text Left = codes "left"
entry_text (Taken c) = codes "taken " ++ decimal c
entry_text (Given c) = codes "given " ++ decimal c
entry_text Torn = codes "torn"

-- whether a thread may run
abbrev pub runnable_text : Bool → List ℕ
runnable_text true = codes "r"
runnable_text false = codes "b"

abbrev pub class_text : Class → List ℕ
class_text Zero = codes "0"
class_text One = codes "1"

-- a name, or `-` for the empty one
abbrev pub name_text : Name → List ℕ
name_text [] = codes "-"
name_text (b ∷ name) = b ∷ name

abbrev pub facts_text : Facts → List ℕ
facts_text f = runnable_text f.runnable ++ codes " mask " ++ decimal f.mask ++ codes " class " ++ class_text f.class ++ codes " name " ++ name_text f.name

-- what is known of a thread
abbrev pub known_text : ℕ → Known → List ℕ
known_text t k = decimal t ++ codes " seq " ++ decimal k.tseq ++ codes " " ++ facts_text k.facts

-- what the agent knows of a thread
abbrev pub view_text : ℕ × Known → List ℕ
view_text p = codes "view " ++ known_text p.0 p.1

-- the lines of what the agent knows, one for each thread
abbrev pub view_lines : List (ℕ × Known) → List ℕ
view_lines known = flat_map (λ p. line (view_text p)) known

-- a thread that lives
abbrev pub live_text : DumpRecord → List ℕ
live_text a = codes "state " ++ known_text a.tid a.known ++ codes " cpu " ++ cpu_text a.cpu

-- the lines of threads that live, one for each
abbrev pub live_lines : List DumpRecord → List ℕ
live_lines threads = flat_map (λ a. line (live_text a)) threads

-- the lines of a reply. A commit has one for each landing, and a look one for each thread or message that it shows. A decision has
-- one and one for each choice, and any other reply has one. A commit and a late landing that tore the enclave down have one more
abbrev pub reply_lines : Reply → List ℕ
reply_lines (replies.Refused f) = line (codes "refused " ++ refusal_text f)
reply_lines replies.Torn = line (codes "torn")
reply_lines (replies.Done e) = line (entry_text e)
reply_lines replies.Crashed = line (codes "crashed")
reply_lines (replies.Page n next bytes) = line (page_text n next)
reply_lines (replies.Drained d) = line (drained_text d)
reply_lines (replies.Stamped number) = line (codes "stamped " ++ decimal number)
reply_lines (replies.Decided first choices) = line (decided_text choices) ++ choice_lines first choices
reply_lines (replies.Landed landings torn) = landing_lines landings ++ torn_line torn
reply_lines (replies.Late number landing torn) = line (late_text number landing) ++ torn_line torn
reply_lines (replies.View known) = view_lines known
reply_lines (replies.State threads) = live_lines threads
reply_lines (replies.Unread messages) = message_lines messages

-- the lines of replies, in order
abbrev pub lines : List Reply → List ℕ
lines rs = flat_map reply_lines rs
