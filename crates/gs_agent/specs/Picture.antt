-- An agent's picture of the machine, and what changes it.
use Rattle.std.specs.Prelude.{Bool, true, false, not, ◌&&◌, ◌+◌, ◌==◌, ◌≡◌, ℕ, Option, None, Some, List, [], ◌∷◌, ◌++◌, map, if◌then◌else◌}
use Rattle.std.specs.Option.{option_to_list}
use Rattle.gs_layout.specs.declared.message.Change.{Change}
use Rattle.gs_layout.specs.declared.message.Change.TheVariants as changes
use Rattle.gs_layout.specs.declared.message.Message.{Message}
use Rattle.gs_layout.specs.declared.message.Message.TheVariants.{Thread, TimerTick}
use Rattle.gs_layout.specs.declared.known.Known.{Known}
use Rattle.gs_layout.specs.declared.known.Word.{Word}
use Rattle.gs_layout.specs.declared.known.Word.TheVariants.{Applied, Orphan, Skipped, Gap}
use Rattle.gs_layout.specs.View.{Look, apply, word}
use Rattle.gs_slots.specs.declared.state.SlotState.{SlotState}
use Rattle.gs_slots.specs.declared.state.SlotState.TheVariants.{Idle, Stamped, Done}
use Rattle.gs_slots.specs.State.{is_grouped}
use Rattle.gs_beliefs.specs.declared.running.Running.{Running}
use Rattle.gs_beliefs.specs.Cpus.{Cpus, believed_on, is_believed, is_named, stamp_on, stamps, unstamps}
use Rattle.gs_beliefs.specs.Belief.{after_outcome, hears}
use Rattle.gs_runq.specs.Queue.{Queue, is_in, order, put, removed}

-- what the agent knows of each thread, what it believes of each CPU, and who waits
pub record Picture : Type 0 where
  pub view : Look
  pub cpus : Cpus
  pub queue : Queue

-- the picture with these parts
abbrev pub parts : Look → Cpus → Queue → Picture
parts v s q = record { view = v; cpus = s; queue = q }

-- whether what is known of a thread says that it may run
abbrev pub is_runnable : Option Known → Bool
is_runnable None = false
is_runnable (Some k) = k.facts.runnable

-- whether a thread waits: it may run, no CPU is believed to run it, and no stamp that was not collected names it
abbrev pub waits : Look → Cpus → ℕ → Bool
waits v s t = is_runnable (v t) && (not (is_believed s t) && not (is_named s t))

-- a thread goes last of the class that is known of it, and one of which nothing is known goes nowhere
abbrev pub goes_last : Option Known → ℕ → Queue → Queue
goes_last None t q = q
goes_last (Some k) t q = put k.facts.class t q

-- the queue brought up to date for a thread. One that begins to wait goes last of its class, and one that does not wait is not in the
-- queue. One that waits already keeps its place, even if another class is known of it now
abbrev pub settled : Look → Cpus → ℕ → Queue → Queue
settled v s t q = if waits v s t then (if is_in t (order q) then q else goes_last (v t) t q) else removed t q

-- the queue brought up to date for several threads, one after another
abbrev pub settled_all : Look → Cpus → List ℕ → Queue → Queue
settled_all v s [] q = q
settled_all v s (t ∷ ts) q = settled_all v s ts (settled v s t q)

-- whether a change ends its thread's turn, though it may go on waiting
abbrev pub ends_turn : Change → Bool
ends_turn (changes.Preempted c) = true
ends_turn (changes.Yield c) = true
ends_turn _ = false

-- whether a message is a new mask alone: its thread stays where it is
abbrev pub is_mask_alone : Message → Bool
is_mask_alone (Thread t n (changes.Affinity c off m)) = not off
is_mask_alone _ = false

-- whether a message ends the turn of its own thread: a tick has none
abbrev pub ends_own_turn : Message → Bool
ends_own_turn (TimerTick c) = false
ends_own_turn (Thread t n ch) = ends_turn ch

-- the queue after a message that applied: its thread is settled, and one whose turn ended goes last anew
abbrev pub requeued : Look → Cpus → Message → Queue → Queue
requeued v s (TimerTick c) q = q
requeued v s (Thread t n ch) q = settled v s t (if ends_turn ch then removed t q else q)

-- the picture after a message that applied
abbrev pub after_news : Message → Picture → Picture
after_news m p = record { view = apply p.view m; cpus = hears m p.cpus; queue = requeued (apply p.view m) (hears m p.cpus) m p.queue }

-- the picture after a message that is this to the view
abbrev pub after_message_by : Word → Message → Picture → Picture
after_message_by Applied m p = after_news m p
after_message_by Orphan m p = p
after_message_by Skipped m p = p
after_message_by Gap m p = p

-- the picture after a message: only what applies changes it
abbrev pub after_message : Message → Picture → Picture
after_message m p = after_message_by (word p.view m) m p

-- the picture after messages, in order
abbrev pub after_messages : Picture → List Message → Picture
after_messages p [] = p
after_messages p (m ∷ ms) = after_messages (after_message m p) ms

-- the picture with other beliefs, once these threads are settled
abbrev pub believes : Cpus → List ℕ → Picture → Picture
believes s ts p = record { view = p.view; cpus = s; queue = settled_all p.view s ts p.queue }

-- the picture after a thread was stamped for a CPU: it waits no more, but whom an older stamp there named may wait again
abbrev pub after_stamp : ℕ → ℕ → Picture → Picture
after_stamp c t p = believes (stamps c t p.cpus) (t ∷ option_to_list (stamp_on p.cpus c)) p

-- a thread, if there is one and it is another than this one
abbrev pub other_than : ℕ → Option ℕ → Option ℕ
other_than t None = None
other_than t (Some u) = if u == t then None else Some u

-- the thread that a belief is of
abbrev pub running_tid : Option Running → Option ℕ
running_tid None = None
running_tid (Some r) = Some r.tid

-- the thread that is believed to run on a CPU, if there is such a CPU
abbrev pub displaced : Cpus → Option ℕ → Option ℕ
displaced s None = None
displaced s (Some c) = running_tid (believed_on s c)

-- the picture after the slot of a CPU was collected. What became of a transaction that landed is believed, and its stamp is gone. Its
-- thread, whom the stamp there named, and whom it displaced begin to wait or wait no more
abbrev pub after_slot : ℕ → SlotState → Picture → Picture
after_slot c Idle p = p
after_slot c (Stamped b) p = p
after_slot c (Done b outcome at seen) p =
    believes (unstamps c (after_outcome outcome at b.tid b.tseq p.cpus)) (b.tid ∷ option_to_list (stamp_on p.cpus c) ++ option_to_list (displaced p.cpus at)) p

-- the picture after slots were collected in increasing order of CPU, the first one that of a CPU
abbrev pub after_slots : ℕ → List SlotState → Picture → Picture
after_slots c [] p = p
after_slots c (x ∷ xs) p = after_slots (c + 1) xs (after_slot c x p)

-- a slot whose transaction is one of a group, and an idle one in place of any other
abbrev pub if_grouped : SlotState → SlotState
if_grouped z = if is_grouped z then z else Idle

-- a slot whose transaction is of no group, and an idle one in place of any other
abbrev pub if_single : SlotState → SlotState
if_single z = if is_grouped z then Idle else z

-- the picture after the slots of all CPUs were collected: those of a group first and then the others, each in increasing order of CPU
abbrev pub after_all : List SlotState → Picture → Picture
after_all zs p = after_slots 0 (map if_single zs) (after_slots 0 (map if_grouped zs) p)

-- the queue holds just who waits
abbrev pub HoldsWaiting : Look → Cpus → Queue → Type 0
HoldsWaiting v s q = (t : ℕ) → is_in t (order q) ≡ waits v s t
