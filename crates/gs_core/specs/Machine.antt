-- The machine: the reply to each event, and what it leaves.
use Rattle.std.specs.Prelude.{Bool, true, false, not, ◌||◌, ◌&&◌, ℕ, zero, suc, ◌+◌, ◌-◌, ◌<◌, ◌≤◌, ◌≡◌, ◌⊎◌, nat_le, nat_lt, min, Option, None, Some, IsSome, Ok, List, [], ◌∷◌, ◌++◌, length, take, drop, slice_get, slice_set, map, replicate, is_some, is_none, option_map, unwrap_or}
use Rattle.std.specs.List.{list_any, count_by}
use Rattle.gs_layout.specs.declared.message.Message.{Message}
use Rattle.gs_layout.specs.declared.known.Known.{Known}
use Rattle.gs_slots.specs.declared.flags.Flags.{Flags}
use Rattle.gs_slots.specs.declared.state.Stamp.{Stamp}
use Rattle.gs_slots.specs.Flags.{single}
use Rattle.gs_slots.specs.declared.state.SlotState.{SlotState}
use Rattle.gs_slots.specs.declared.state.SlotState.TheVariants.{Idle, Stamped, Done}
use Rattle.gs_layout.specs.declared.refusal.Refusal.{Refusal}
use Rattle.gs_layout.specs.declared.refusal.Refusal.TheVariants as refusals
use Rattle.gs_layout.specs.View.{Look, look_up, words, catch_up, is_gap, is_skipped, is_orphan, gap_next}
use Rattle.gs_journal.specs.declared.entry.Entry.{Entry}
use Rattle.gs_journal.specs.declared.entry.Entry.TheVariants.{Role, Begin, Left}
use Rattle.gs_journal.specs.History.{History, posted, active, attaching, taken, torn}
use Rattle.gs_journal.specs.State.{unread_after}
use Rattle.gs_kernel.specs.declared.settings.Settings.{Settings}
use Rattle.gs_slots.specs.State.{collected, is_stamped}
use Rattle.gs_kernel.specs.Commit.{standing_commit_refusal}
use Rattle.gs_kernel.specs.declared.landing.Landing.{Landing}
use Rattle.gs_kernel.specs.declared.command.Command.{Command}
use Rattle.gs_kernel.specs.declared.command.Command.TheVariants as commands
use Rattle.gs_kernel.specs.declared.executed.Executed.{Executed}
use Rattle.gs_kernel.specs.Legal.{Room, Tells, effect, is_done, standing_refusal as command_refusal}
use Rattle.gs_kernel.specs.Lands.{Landings, Lands}
use Rattle.gs_kernel.specs.Group.{LandsCommit}
use Rattle.gs_kernel.specs.First.{first_that}
use Rattle.gs_kernel.specs.Kernel.{has_agent, last_entry, unless_torn}
use Rattle.gs_kernel.specs.Shown.{live_threads}
use Rattle.gs_kernel.specs.Attaching.{page_refusal}
use Rattle.gs_kernel.specs.Dumped.{dumped}
use Rattle.gs_dump.specs.Page.{Contents}
use Rattle.gs_ring.specs.Places.{free_after, need, record_len, written}
use Rattle.gs_policy.specs.Shown.{Shown}
use Rattle.gs_policy.specs.declared.choice.Choice.{Choice}
use Rattle.gs_view.specs.Begins.{begins}
use Rattle.gs_agent.specs.Mind.{MindState, moved, nothing, picture_of, shown_in, thinks}
use Rattle.gs_agent.specs.Picture.{Picture, after_all, after_stamp, after_messages}
use Rattle.gs_agent.specs.Pages.{after_page}
use Rattle.gs_view.specs.Shown.{tids}
use Rattle.std.specs.List.Sorted.{IsStrictlyIncreasing}
use Rattle.gs_replies.specs.declared.config.Config.{Config}
use Rattle.gs_replies.specs.Config.{settings_of}
use Rattle.gs_agent.specs.declared.drained.Drained.{Drained}
use Rattle.gs_agent.specs.declared.drained.Stop.TheVariants as stops
use Rattle.gs_core.specs.declared.event.Event.{Event}
use Rattle.gs_core.specs.declared.event.Event.TheVariants as events
use Rattle.gs_replies.specs.declared.reply.Reply.{Reply}
use Rattle.gs_replies.specs.declared.reply.Reply.TheVariants as replies
use Rattle.gs_replies.specs.Replies.{page_reply, reply_of}
use Rattle.gs_core.specs.declared.transaction.Transaction.{Transaction}

-- what an agent keeps: what it has in mind, and the tid where its next page begins, none if it needs no more pages
pub record Agent : Type 0 where
  pub mind : MindState
  pub next : Option ℕ

-- a machine: the kernel's numbers, how many bytes the ring has, what happened, and how many messages the agents consumed. It has the
-- agent if there is one, the policy by which it plans, each CPU's slot, and all that was ever stamped
pub record StateOf (P : Type 0) : Type 0 where
  pub settings : Settings
  pub ring : ℕ
  pub history : List Entry
  pub consumed : ℕ
  pub agent : Option Agent
  pub policy : P
  pub slots : List SlotState
  pub transactions : List Transaction

-- what a policy plans by what it is shown
abbrev pub Plan : Type 0
Plan = Shown → List Choice

-- of a machine's policy only the plan counts
abbrev pub State : Type 0
State = StateOf Plan

-- a machine whose policy plans so
abbrev pub planning : {P : Type 0} → (P → Plan) → StateOf P → State
planning chosen m =
    record {
      settings = m.settings;
      ring = m.ring;
      history = m.history;
      consumed = m.consumed;
      agent = m.agent;
      policy = chosen m.policy;
      slots = m.slots;
      transactions = m.transactions;
    }

-- an event whose policy, if it names one, plans so
abbrev pub planned : {P Q : Type 0} → (P → Q) → Event P → Event Q
planned f (events.Kernel c) = events.Kernel c
planned f events.Crash = events.Crash
planned f (events.Begin p) = events.Begin (f p)
planned f (events.Page max) = events.Page max
planned f (events.Drain max) = events.Drain max
planned f (events.Stamp c t flags) = events.Stamp c t flags
planned f events.Decide = events.Decide
planned f (events.Commit mask) = events.Commit mask
planned f (events.Late n) = events.Late n
planned f events.View = events.View
planned f events.State = events.State
planned f events.Unread = events.Unread

-- what an agent has in mind: nothing, if there is none
abbrev pub mind_of : Option Agent → MindState
mind_of None = nothing 0 None
mind_of (Some a) = a.mind

-- where the next page begins: the first one, if there is no agent
abbrev pub page_of : Option Agent → Option ℕ
page_of None = Some 1
page_of (Some a) = a.next

-- what the agent knows of each thread
abbrev pub view : State → Look
view m = look_up (mind_of m.agent).records

-- the agent's picture of the machine
abbrev pub picture : State → Picture
picture m = picture_of (mind_of m.agent)

-- an agent of whose picture this is made, apart from its records
abbrev pub thinking : (Picture → Picture) → Agent → Agent
thinking f a = record a { mind = thinks a.mind (f (picture_of a.mind)) }

-- an agent that goes on to a CPU: all else that it has in mind stays
abbrev pub promoted : ℕ → Agent → Agent
promoted c a = record a { mind = moved c a.mind }

-- an agent that begins to attach in an enclave of so many CPUs: it has nothing in mind yet, and its first page begins at the first tid
abbrev pub newcomer : ℕ → Agent
newcomer cpus = record { mind = nothing cpus None; next = Some 1 }

-- the agent after a command, in an enclave of so many CPUs, by the last thing that happened. A role moves it to the role's CPU, one that left is
-- gone, and if one begins, it is a new one
abbrev pub led : ℕ → Entry → Option Agent → Option Agent
led cpus (Role g c) o = option_map (promoted c) o
led cpus (Begin g) o = Some (newcomer cpus)
led cpus Left o = None
led cpus _ o = o

-- the slots after it: if an agent begins, they are idle
abbrev pub freed_by : ℕ → Entry → List SlotState → List SlotState
freed_by cpus (Begin g) slots = replicate cpus Idle
freed_by cpus _ slots = slots

-- the messages that were posted and not yet consumed
abbrev pub unread : State → List Message
unread m = unread_after m.history m.consumed

-- an agent is active, or one attaches that was given the last page
abbrev pub attached : State → Bool
attached m = is_some (active m.history) || (is_some (attaching m.history) && not (is_some (page_of m.agent)))

-- what the policy plans by all that the agent has in mind, and the CPUs that the other class took and did not give back
abbrev pub plan_of : State → List Choice
plan_of m = m.policy (shown_in (mind_of m.agent) (taken m.history))

-- whether the slot of a CPU is idle
abbrev pub is_idle : Option SlotState → Bool
is_idle (Some Idle) = true
is_idle (Some (Stamped b)) = false
is_idle (Some (Done b o a n)) = false
is_idle None = false

-- a transaction by its number, counted from 1
abbrev pub transaction_of : List Transaction → ℕ → Option Transaction
transaction_of xs zero = None
transaction_of xs (suc n) = slice_get xs n

-- the first refusal of what takes an active agent, and else another
abbrev pub without_agent : State → Option Refusal → Option Refusal
without_agent m other =
    first_that ((not (is_some (active m.history)), Some refusals.NotActive) ∷ []) other

-- whether the agent was given the last page
abbrev pub is_given_all : State → Bool
is_given_all m = is_none (page_of m.agent)

-- whether the agent stays with a command: it does not go, and none begins
abbrev pub stays_with : Command → Bool
stays_with commands.Leave = false
stays_with commands.Begin = false
stays_with _ = true

-- the first refusal of a command that the kernel has
abbrev pub kernel_refusal : State → Command → Option Refusal
kernel_refusal m c = command_refusal m.settings m.history (is_given_all m) c

-- the first refusal of a command: an agent does not leave while a slot is stamped
abbrev pub told_refusal : State → Command → Option Refusal
told_refusal m commands.Leave =
    first_that ((not (has_agent m.history), Some refusals.NotActive) ∷ (list_any is_stamped m.slots, Some refusals.SlotOpen) ∷ []) (kernel_refusal m commands.Leave)
told_refusal m c = kernel_refusal m c

-- the first refusal of an event whose condition holds while the enclave stands
abbrev pub standing_refusal : State → Event Plan → Option Refusal
standing_refusal m (events.Kernel c) = told_refusal m c
standing_refusal m events.Crash = kernel_refusal m commands.Leave
standing_refusal m (events.Begin p) = kernel_refusal m commands.Begin
standing_refusal m (events.Page max) = page_refusal m.history (is_given_all m)
standing_refusal m (events.Drain max) = first_that ((not (has_agent m.history), Some refusals.NotActive) ∷ []) None
standing_refusal m (events.Stamp c t flags) =
    without_agent m (
    first_that (
    (nat_le m.settings.cpus c, Some refusals.BadCpu)
    ∷ (not (is_some (view m t)), Some refusals.NoThread)
    ∷ (not (is_idle (slice_get m.slots c)), Some refusals.SlotOpen)
    ∷ (nat_le m.settings.history (length m.transactions), Some refusals.HistoryFull)
    ∷ []
    ) None
    )
standing_refusal m events.Decide =
    without_agent m (first_that ((nat_lt (m.settings.history - length m.transactions) (length (plan_of m)), Some refusals.HistoryFull) ∷ []) None)
standing_refusal m (events.Commit mask) = standing_commit_refusal m.settings m.history mask
standing_refusal m (events.Late n) = first_that ((not (is_some (transaction_of m.transactions n)), Some refusals.NoSuchTransaction) ∷ []) None
standing_refusal m events.View = first_that ((not (has_agent m.history), Some refusals.NotActive) ∷ []) None
standing_refusal m events.State = None
standing_refusal m events.Unread = None

-- the first refusal of an event whose condition holds
abbrev pub refusal : State → Event Plan → Option Refusal
refusal m e = unless_torn m.history (standing_refusal m e)

-- whether a message fits behind a history into a ring of so many bytes, of which so many messages were consumed. It takes up no more
-- bytes, with its PAD, than are free
abbrev pub fits_into : ℕ → ℕ → History → Message → Bool
fits_into ring consumed h k = nat_le (need ring (written ring (posted h)) (record_len k)) (free_after ring (posted h) consumed)

-- the ring's condition: what fits, by its bytes
abbrev pub IsFit : ℕ → ℕ → Room
IsFit ring consumed h b k = fits_into ring consumed h k ≡ b

-- as a machine's ring has it
abbrev pub fits : State → Room
fits m = IsFit m.ring m.consumed

-- a command is done, or tears the enclave down, as its message fits or does not. Agent and slots follow the last thing that happened, and
-- all else stays: a hand-off leaves slots, transactions and all that the agent has in mind
pub record Carries (m : State) (c : Command) (r : Reply) (m' : State) : Type 0 where
  pub executed : Executed
  pub reply : r ≡ reply_of (Ok executed) (last_entry m'.history)
  pub tells : Tells (fits m) m.history (effect m.settings m.history c) (is_done executed) m'.history
  pub others : m' ≡ record m {
    history = m'.history;
    agent = led m.settings.cpus (last_entry m'.history) m.agent;
    slots = freed_by m.settings.cpus (last_entry m'.history) m.slots;
  }

-- what is stamped: the active generation, the record's sequence number, and the flags
abbrev pub stamp_of : ℕ → Flags → (ℕ × ℕ) → Known → Stamp
stamp_of t flags a k = record { generation = a.0; tid = t; tseq = k.tseq; flags = flags }

-- the record that the view has is stamped into the slot, which is kept as a transaction, and the agent remembers the stamp
abbrev pub stamps_with : State → ℕ → ℕ → Flags → Option (ℕ × ℕ) → Option Known → Reply × State
stamps_with m c t flags (Some a) (Some k) = (
  replies.Stamped (length m.transactions + 1),
  record m {
    agent = option_map (thinking (after_stamp c t)) m.agent;
    slots = slice_set m.slots c (Stamped (stamp_of t flags a k));
    transactions = m.transactions ++ record { cpu = c; slot = stamp_of t flags a k } ∷ [];
  },
)
stamps_with m c t flags None k = (replies.Refused refusals.NotActive, m)
stamps_with m c t flags (Some a) None = (replies.Refused refusals.NoThread, m)

abbrev pub stamps : State → ℕ → ℕ → Flags → Reply × State
stamps m c t flags = stamps_with m c t flags (active m.history) (view m t)

-- choices are stamped one after another, each by itself
abbrev pub stamps_all : State → List Choice → State
stamps_all m [] = m
stamps_all m (x ∷ xs) = stamps_all (stamps m x.cpu x.tid (single x.preempt)).1 xs

-- what the policy plans is stamped, in the plan's order
abbrev pub decides : State → Reply × State
decides m = (replies.Decided (length m.transactions + 1) (plan_of m), stamps_all m (plan_of m))

-- after landings: the agent collects what became of the slots, and what is done is idle then
abbrev pub committed : State → Landings → State
committed m made =
    record m { history = made.history; agent = option_map (thinking (after_all made.slots)) m.agent; slots = map collected made.slots }

-- a commit: the stamped slots of a mask land, those of a group first and together, and are collected. The reply says whether that tore the enclave down
pub record Commits (m : State) (mask : ℕ) (r : Reply) (m' : State) : Type 0 where
  pub made : Landings
  pub lands : LandsCommit (fits m) m.settings mask m.slots m.history made
  pub reply : r ≡ replies.Landed made.answers (torn made.history)
  pub left : m' ≡ committed m made

-- a transaction lands late, as it was stamped: of the machine only the history changes
pub record LandsLate (m : State) (n : ℕ) (r : Reply) (m' : State) : Type 0 where
  pub transaction : Transaction
  pub found : transaction_of m.transactions n ≡ Some transaction
  pub landing : Landing
  pub lands : Lands (fits m) m.settings m.history transaction.cpu transaction.slot landing m'.history
  pub reply : r ≡ replies.Late n landing (torn m'.history)
  pub others : m' ≡ record m { history = m'.history }

-- whether the next of these messages begins a record
abbrev pub begins_next : Look → List Message → Bool
begins_next v [] = false
begins_next v (m ∷ ms) = begins v m

-- of these messages the first count were followed, none of them a gap. A drain stops early if the next one is a gap, or if it begins
-- a record and memory for that runs out
pub record FollowsFirst (p : Picture) (ms : List Message) (most : ℕ) (d : Drained) (p' : Picture) : Type 0 where
  pub count : d.count ≤ min most (length ms)
  pub whole : d.stop ≡ None → d.count ≡ min most (length ms)
  pub early : IsSome d.stop → d.count < min most (length ms)
  pub gap : d.stop ≡ Some stops.Gap → gap_next (catch_up p.view (take d.count ms)) (drop d.count ms) ≡ true
  pub memory : d.stop ≡ Some stops.Memory → begins_next (catch_up p.view (take d.count ms)) (drop d.count ms) ≡ true
  pub none_gap : list_any is_gap (words p.view (take d.count ms)) ≡ false
  pub skipped : d.skipped ≡ count_by is_skipped (words p.view (take d.count ms))
  pub orphans : d.orphans ≡ count_by is_orphan (words p.view (take d.count ms))
  pub known : (t : ℕ) → p'.view t ≡ catch_up p.view (take d.count ms) t
  pub picture : p' ≡ after_messages p (take d.count ms)

-- a drain follows unread messages, and changes nothing else
pub record Drains (m : State) (max : ℕ) (d : Drained) (m' : State) : Type 0 where
  pub follows : FollowsFirst (picture m) (unread m) max d (picture m')
  pub consumed : m'.consumed ≡ m.consumed + d.count
  pub others : m' ≡ record m { consumed = m'.consumed; agent = m'.agent }
  pub stays : is_some m'.agent ≡ is_some m.agent
  pub page : page_of m'.agent ≡ page_of m.agent

-- all that is known, in increasing order of tid
pub record IsListOf (v : Look) (xs : List (ℕ × Known)) : Type 0 where
  pub rising : IsStrictlyIncreasing (tids xs)
  pub all : (t : ℕ) → look_up xs t ≡ v t

-- the reply to a look at a view has all that is known
abbrev pub Shows : Look → Reply → Type 0
Shows v r = (xs : List (ℕ × Known)) × (r ≡ replies.View xs) × IsListOf v xs

-- an agent crashed: it is gone, and no other attaches yet
abbrev pub crashed : State → State
crashed m = record m { history = m.history ++ Left ∷ []; agent = None }

-- the page that begins where the agent's next one does, of so many threads at most
abbrev pub next_dump : State → ℕ → Contents
next_dump m max = dumped m.settings m.history (unwrap_or (page_of m.agent) 0) max

-- the agent that attaches is told of the next threads that live
pub record Attaches (m : State) (max : ℕ) (r : Reply) (m' : State) : Type 0 where
  pub reply : r ≡ page_reply (next_dump m max)
  pub known : picture m' ≡ after_page (next_dump m max).records (picture m)
  pub page : page_of m'.agent ≡ (next_dump m max).next
  pub stays : is_some m'.agent ≡ is_some m.agent
  pub others : m' ≡ record m { agent = m'.agent }

-- a machine that plans by another policy
abbrev pub planned_by : Plan → State → State
planned_by p m = record m { policy = p }

-- the reply to an event that is not refused and not out of memory, and what it leaves. A drain and a look at the view have their own
-- words
abbrev pub Does : State → Event Plan → Reply → State → Type 0
Does m (events.Kernel c) r m' = Carries m c r m'
Does m events.Crash r m' = (r ≡ replies.Crashed) × (m' ≡ crashed m)
Does m (events.Begin p) r m' = Carries (planned_by p m) commands.Begin r m'
Does m (events.Page max) r m' = Attaches m max r m'
Does m (events.Drain max) r m' = (d : Drained) × (r ≡ replies.Drained d) × Drains m max d m'
Does m (events.Stamp c t flags) r m' = (r ≡ (stamps m c t flags).0) × (m' ≡ (stamps m c t flags).1)
Does m events.Decide r m' = (r ≡ (decides m).0) × (m' ≡ (decides m).1)
Does m (events.Commit mask) r m' = Commits m mask r m'
Does m (events.Late n) r m' = LandsLate m n r m'
Does m events.View r m' = Shows (view m) r × (m' ≡ m)
Does m events.State r m' = (r ≡ replies.State (live_threads m.settings m.history)) × (m' ≡ m)
Does m events.Unread r m' = (r ≡ replies.Unread (unread m)) × (m' ≡ m)

-- being out of memory refuses an event, and a drain stops in place of that
abbrev pub IsShort : {P : Type 0} → Event P → Reply → Type 0
IsShort (events.Drain max) r = ⊥
IsShort e r = r ≡ replies.Refused refusals.OutOfMemory

-- an event that a refusal holds of is refused by it, and changes nothing. Any other is done, or was out of memory and changed nothing; a
-- drain is never refused so
abbrev pub Serves : Option Refusal → State → Event Plan → Reply → State → Type 0
Serves (Some f) m e r m' = (r ≡ replies.Refused f) × (m' ≡ m)
Serves None m e r m' = Does m e r m' ⊎ (IsShort e r × (m' ≡ m))

-- from m an event may have the reply r and leave m': it is served by the first refusal that holds, if any does
abbrev pub Step : State → Event Plan → Reply → State → Type 0
Step m e r m' = Serves (refusal m e) m e r m'

-- the machine before the first event
abbrev pub start : {P : Type 0} → Config P → StateOf P
start c =
    record {
      settings = settings_of c;
      ring = c.ring;
      history = Role c.first_generation 0 ∷ [];
      consumed = 0;
      agent = Some (record { mind = nothing c.cpus (Some 0); next = None });
      policy = c.policy;
      slots = replicate c.cpus Idle;
      transactions = [];
    }
