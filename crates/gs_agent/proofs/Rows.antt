-- Worked rows: three CPUs, of which the agent has the first, and three threads, of which thread 9 is of class 1.
use Rattle.std.proofs.Common.{◌≡◌, ℕ, refl, Bool, true, false, Option, None, Some, List, [], ◌∷◌}
use Rattle.gs_layout.specs.declared.facts.Class.{Class}
use Rattle.gs_layout.specs.declared.facts.Class.TheVariants.{Zero, One}
use Rattle.gs_layout.specs.declared.known.Known.{Known}
use Rattle.gs_layout.specs.declared.message.Change.TheVariants.{Created, Blocked, Wakeup, Preempted, Yield, Dead}
use Rattle.gs_layout.specs.declared.message.Message.{Message}
use Rattle.gs_layout.specs.declared.message.Message.TheVariants.{Thread, TimerTick}
use Rattle.gs_layout.specs.declared.outcome.Outcome.{Outcome}
use Rattle.gs_layout.specs.declared.outcome.Outcome.TheVariants.{Placed, AlreadyPlaced, Stale}
use Rattle.gs_layout.specs.View.{look_up}
use Rattle.gs_slots.specs.Flags.{single}
use Rattle.gs_slots.specs.declared.state.SlotState.{SlotState}
use Rattle.gs_slots.specs.declared.state.SlotState.TheVariants.{Idle, Stamped, Done}
use Rattle.gs_beliefs.specs.declared.running.Running.{Running}
use Rattle.gs_beliefs.specs.Cpus.{Cpus}
use Rattle.gs_runq.specs.Queue.{Queue}
use Rattle.gs_dump.specs.declared.record.DumpRecord.{DumpRecord}
use Rattle.gs_agent.specs.Pages.{after_page}
use Rattle.gs_agent.specs.Picture.{Picture, after_slot, after_slots, after_stamp, after_message, after_messages, waits}

-- what is known of a thread, at this number
abbrev known : Class → Bool → ℕ → Known
known class runnable n = record { facts = record { runnable = runnable; mask = 6; class = class; name = 0x77 ∷ [] }; tseq = n }

abbrev created : ℕ → Class → Bool → Message
created t class runnable = Thread t 5 (Created (known class runnable 5).facts)

abbrev at : ℕ → ℕ → ℕ → Option Running
at t n ticks = Some (record { tid = t; tseq = n; ticks = ticks })

-- what a page tells of a thread, at number 6
abbrev told : ℕ → Class → Bool → Option ℕ → DumpRecord
told t class runnable c = record { tid = t; known = known class runnable 6; cpu = c }

-- these beliefs and stamps on CPUs 1 and 2
abbrev cpus : Option Running → Option Running → Option ℕ → Option ℕ → Cpus
cpus a b x y = record { believed = None ∷ a ∷ b ∷ []; stamped = None ∷ x ∷ y ∷ []; agent = Some 0 }

abbrev queue : List ℕ → List ℕ → Queue
queue zeros ones = record { zero_class = zeros; one_class = ones; room = 65536 }

-- nothing is known
abbrev blank : Picture
blank = record { view = look_up []; cpus = cpus None None None None; queue = queue [] [] }

-- threads 7, 8 and 9 are known, each runnable at number 5
abbrev knows : Cpus → Queue → Picture
knows s q = record { view = look_up ((7, known Zero true 5) ∷ (8, known Zero true 5) ∷ (9, known One true 5) ∷ []); cpus = s; queue = q }

-- all three wait
abbrev all_wait : Picture
all_wait = knows (cpus None None None None) (queue (7 ∷ 8 ∷ []) (9 ∷ []))

-- thread 7 is stamped for CPU 1
abbrev stamped : Picture
stamped = knows (cpus None None (Some 7) None) (queue (8 ∷ []) (9 ∷ []))

-- a transaction of a thread that landed
abbrev landed : ℕ → Outcome → Option ℕ → SlotState
landed t outcome at = Done (record { generation = 3; tid = t; tseq = 5; flags = single true }) outcome at 5

-- who begins to wait goes last of its class
created_row : (after_message (created 7 Zero true) blank).queue ≡ queue (7 ∷ []) []
created_row = refl

second_row : (after_messages blank (created 7 Zero true ∷ created 9 One true ∷ created 8 Zero true ∷ [])).queue ≡ queue (7 ∷ 8 ∷ []) (9 ∷ [])
second_row = refl

-- a thread that is created blocked waits from its wakeup on
blocked_creation_row : (after_message (created 7 Zero false) blank).queue ≡ queue [] []
blocked_creation_row = refl

wakeup_row : (after_messages blank (created 7 Zero false ∷ created 8 Zero true ∷ Thread 7 6 Wakeup ∷ [])).queue ≡ queue (8 ∷ 7 ∷ []) []
wakeup_row = refl

-- who dies or blocks waits no more
dead_row : (after_message (Thread 7 6 (Dead None)) all_wait).queue ≡ queue (8 ∷ []) (9 ∷ [])
dead_row = refl

blocked_row : (after_message (Thread 9 6 (Blocked 1)) all_wait).queue ≡ queue (7 ∷ 8 ∷ []) []
blocked_row = refl

-- if its turn ended, the thread goes last anew, and one that merely is told of keeps its place
preempted_row : (after_message (Thread 7 6 (Preempted 1)) all_wait).queue ≡ queue (8 ∷ 7 ∷ []) (9 ∷ [])
preempted_row = refl

yield_row : (after_message (Thread 7 6 (Yield 1)) all_wait).queue ≡ queue (8 ∷ 7 ∷ []) (9 ∷ [])
yield_row = refl

told_row : (after_message (Thread 7 6 Wakeup) all_wait).queue ≡ queue (7 ∷ 8 ∷ []) (9 ∷ [])
told_row = refl

-- and so does one that is created once more, with another class
created_again_row : (after_message (Thread 7 6 (Created (known One true 6).facts)) all_wait).queue ≡ queue (7 ∷ 8 ∷ []) (9 ∷ [])
created_again_row = refl

-- a preemption takes its thread off the CPU where it was believed to run, so it waits
off_row : (after_message (Thread 7 6 (Preempted 1)) (knows (cpus (at 7 5 2) None None None) (queue (8 ∷ []) []))).queue ≡ queue (8 ∷ 7 ∷ []) []
off_row = refl

-- a stamped thread waits no more
stamp_row : after_stamp 1 7 all_wait ≡ stamped
stamp_row = refl

-- whom an older stamp named waits again
stamp_over_row : after_stamp 1 8 stamped ≡ knows (cpus None None (Some 8) None) (queue (7 ∷ []) (9 ∷ []))
stamp_over_row = refl

-- unless another stamp names it still
stamp_twice_row : after_stamp 1 8 (knows (cpus None None (Some 7) (Some 7)) (queue (8 ∷ []) (9 ∷ []))) ≡ knows (cpus None None (Some 8) (Some 7)) (queue [] (9 ∷ []))
stamp_twice_row = refl

-- the same thread stamped again
stamp_again_row : after_stamp 1 7 stamped ≡ stamped
stamp_again_row = refl

-- past the last CPU no stamp is noted
stamp_past_row : after_stamp 3 7 all_wait ≡ all_wait
stamp_past_row = refl

-- a placed thread is believed to run, and does not wait, until it blocks
placed_row : after_slot 1 (landed 7 Placed (Some 1)) stamped ≡ knows (cpus (at 7 5 0) None None None) (queue (8 ∷ []) (9 ∷ []))
placed_row = refl

placed_blocked_row : (after_message (Thread 7 6 (Blocked 1)) (after_slot 1 (landed 7 Placed (Some 1)) stamped)).queue ≡ queue (8 ∷ []) (9 ∷ [])
placed_blocked_row = refl

placed_blocked_cpus_row : (after_message (Thread 7 6 (Blocked 1)) (after_slot 1 (landed 7 Placed (Some 1)) stamped)).cpus ≡ cpus None None None None
placed_blocked_cpus_row = refl

-- a stale transaction: its thread waits again, last of its class
stale_row : after_slot 1 (landed 7 Stale None) stamped ≡ knows (cpus None None None None) (queue (8 ∷ 7 ∷ []) (9 ∷ []))
stale_row = refl

-- whom a placed thread displaces waits again
displaced_row : after_slot 1 (landed 7 Placed (Some 1)) (knows (cpus (at 9 5 2) None (Some 7) None) (queue (8 ∷ []) [])) ≡ knows (cpus (at 7 5 0) None None None) (queue (8 ∷ []) (9 ∷ []))
displaced_row = refl

-- a thread that is found on another CPU is believed to run there
already_row : after_slot 1 (landed 7 AlreadyPlaced (Some 2)) stamped ≡ knows (cpus None (at 7 5 0) None None) (queue (8 ∷ []) (9 ∷ []))
already_row = refl

-- the agent's own stamp there named another thread than the slot
another_stamp_row : after_slot 1 (landed 7 Placed (Some 1)) (knows (cpus None None (Some 8) None) (queue (7 ∷ []) (9 ∷ []))) ≡ knows (cpus (at 7 5 0) None None None) (queue (8 ∷ []) (9 ∷ []))
another_stamp_row = refl

-- an idle slot, and one whose transaction has not landed, say nothing
idle_row : after_slot 1 Idle stamped ≡ stamped
idle_row = refl

stamped_row : after_slot 1 (Stamped (record { generation = 3; tid = 7; tseq = 5; flags = single true })) stamped ≡ stamped
stamped_row = refl

-- slots in increasing order of CPU
slots_row : after_slots 1 (landed 7 Placed (Some 1) ∷ landed 9 Stale None ∷ []) (knows (cpus None None (Some 7) (Some 9)) (queue (8 ∷ []) [])) ≡ knows (cpus (at 7 5 0) None None None) (queue (8 ∷ []) (9 ∷ []))
slots_row = refl

-- who lives by a page and is on no CPU waits; who is on one is believed to run there
page_row : (after_page (told 7 Zero true (Some 1) ∷ told 8 Zero true None ∷ told 9 One false None ∷ []) blank).queue ≡ queue (8 ∷ []) []
page_row = refl

page_cpus_row : (after_page (told 7 Zero true (Some 1) ∷ told 8 Zero true None ∷ []) blank).cpus ≡ cpus (at 7 6 0) None None None
page_cpus_row = refl

-- what a page tells is known, whatever was known before, and of no other thread
page_known_row : (after_page (told 7 One false None ∷ []) all_wait).view 7 ≡ Some (known One false 6)
page_known_row = refl

page_other_row : (after_page (told 7 One false None ∷ []) all_wait).view 8 ≡ Some (known Zero true 5)
page_other_row = refl

page_blocked_row : (after_page (told 7 Zero false None ∷ []) all_wait).queue ≡ queue (8 ∷ []) (9 ∷ [])
page_blocked_row = refl

-- whom a page's thread displaces waits again, and a belief stays if a page says that the thread is on no CPU
page_displaces_row : (after_page (told 7 Zero true (Some 1) ∷ []) (knows (cpus (at 9 5 2) None None None) (queue (7 ∷ 8 ∷ []) []))).queue ≡ queue (8 ∷ []) (9 ∷ [])
page_displaces_row = refl

page_on_none_row : (after_page (told 7 Zero true None ∷ []) (knows (cpus (at 7 5 2) None None None) (queue (8 ∷ []) (9 ∷ [])))).cpus ≡ cpus (at 7 5 2) None None None
page_on_none_row = refl

-- of two records on one CPU the later thread is believed to run there, and the earlier one waits
page_twice_row : after_page (told 7 Zero true (Some 1) ∷ told 8 Zero true (Some 1) ∷ []) all_wait
    ≡ record { view = (after_page (told 7 Zero true (Some 1) ∷ told 8 Zero true (Some 1) ∷ []) all_wait).view; cpus = cpus (at 8 6 0) None None None; queue = queue (7 ∷ []) (9 ∷ []) }
page_twice_row = refl

-- whom a record displaces begins to wait by what is known so far, and keeps that place at its own record, which says another class
page_one_at_a_time_row : (after_page (told 7 Zero true (Some 1) ∷ told 9 Zero true None ∷ []) (knows (cpus (at 9 5 2) None None None) (queue (7 ∷ 8 ∷ []) []))).queue
    ≡ queue (8 ∷ []) (9 ∷ [])
page_one_at_a_time_row = refl

-- a thread that was known as blocked waits from its own record on
page_blocked_before_row : (after_page (told 7 Zero true (Some 1) ∷ told 8 Zero true None ∷ told 9 Zero true None ∷ [])
    (record { view = look_up ((9, known Zero false 5) ∷ []); cpus = cpus (at 9 5 2) None None None; queue = queue [] [] })).queue ≡ queue (8 ∷ 9 ∷ []) []
page_blocked_before_row = refl

-- past the last CPU no belief is noted
page_past_row : (after_page (told 7 Zero true (Some 3) ∷ []) all_wait).queue ≡ queue (7 ∷ 8 ∷ []) (9 ∷ [])
page_past_row = refl

-- a page with no thread changes nothing
empty_page_row : after_page [] all_wait ≡ all_wait
empty_page_row = refl

-- a tick counts for whoever is believed to run there
tick_row : after_message (TimerTick 1) (knows (cpus (at 7 5 2) None None None) (queue (8 ∷ []) (9 ∷ []))) ≡ knows (cpus (at 7 5 3) None None None) (queue (8 ∷ []) (9 ∷ []))
tick_row = refl

-- what does not apply changes nothing
orphan_row : after_message (Thread 6 2 Wakeup) all_wait ≡ all_wait
orphan_row = refl

skipped_row : after_message (Thread 7 5 (Blocked 1)) all_wait ≡ all_wait
skipped_row = refl

gap_row : after_message (Thread 7 7 (Dead None)) all_wait ≡ all_wait
gap_row = refl

-- who waits: a runnable thread that is neither believed to run nor named
waits_row : waits all_wait.view (cpus (at 8 5 0) None None None) 7 ≡ true
waits_row = refl

believed_row : waits all_wait.view (cpus (at 7 5 0) None None None) 7 ≡ false
believed_row = refl

named_row : waits all_wait.view (cpus None None None (Some 7)) 7 ≡ false
named_row = refl

unknown_row : waits all_wait.view (cpus None None None None) 6 ≡ false
unknown_row = refl
