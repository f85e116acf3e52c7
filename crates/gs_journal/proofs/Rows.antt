-- Worked rows: the definitions compute.
use Rattle.std.proofs.Common.{◌≡◌, refl, ℕ, Bool, true, false, None, Some, [], ◌∷◌, take}
use Rattle.gs_layout.specs.declared.facts.Facts.{Facts}
use Rattle.gs_layout.specs.declared.facts.Class.TheVariants.{Zero}
use Rattle.gs_layout.specs.declared.message.Change.TheVariants.{Created, Blocked, Wakeup, Preempted, Yield, Dead, Affinity}
use Rattle.gs_layout.specs.declared.message.Message.TheVariants.{Thread, TimerTick}
use Rattle.gs_layout.specs.declared.record.Record.TheVariants as records
use Rattle.gs_journal.specs.declared.entry.Entry.TheVariants.{Posted, Placed, Role, Begin, Left, Taken, Given, Torn}
use Rattle.gs_journal.specs.Standing.{last_of, standing, latest}
use Rattle.gs_journal.specs.Record.{record_of}
use Rattle.gs_journal.specs.History.{History, posted, messages, created, seq, record_in, on, at, active, attaching, generation, taken, last_taken, torn}
use Rattle.gs_journal.specs.State.{state}

facts : Bool → ℕ → Facts
facts may mask = record { runnable = may; mask = mask; class = Zero; name = 119 ∷ 101 ∷ 98 ∷ [] }

-- the life of thread 1: created, placed, a tick, blocked, woken, placed, preempted, placed. Then two new masks of which the second takes it off,
-- placed, gives way, dies
life : History
life =
    Role 1 0
    ∷ Posted (Thread 1 1 (Created (facts true 3)))
    ∷ Placed 1 1 1 1
    ∷ Posted (TimerTick 0)
    ∷ Posted (Thread 1 2 (Blocked 1))
    ∷ Posted (Thread 1 3 Wakeup)
    ∷ Placed 1 3 0 1
    ∷ Posted (Thread 1 4 (Preempted 0))
    ∷ Placed 1 4 1 1
    ∷ Posted (Thread 1 5 (Affinity (Some 1) false 2))
    ∷ Posted (Thread 1 6 (Affinity (Some 1) true 1))
    ∷ Placed 1 6 0 1
    ∷ Posted (Thread 1 7 (Yield 0))
    ∷ Posted (Thread 1 8 (Dead None))
    ∷ []

not_on_yet : on (take 2 life) 1 ≡ None
unfolding on standing last_of life
not_on_yet = refl

placed : on (take 3 life) 1 ≡ Some 1
unfolding on standing last_of life
placed = refl

-- a tick takes nobody off
after_tick : on (take 4 life) 1 ≡ Some 1
unfolding on standing last_of life
after_tick = refl

blocked : on (take 5 life) 1 ≡ None
unfolding on standing last_of life
blocked = refl

-- a wake-up places nobody
woken : at 2 (take 6 life) 1 ≡ None
unfolding at on standing last_of life
woken = refl

placed_again : at 2 (take 7 life) 1 ≡ Some 0
unfolding at on standing last_of life
placed_again = refl

preempted : on (take 8 life) 0 ≡ None
unfolding on standing last_of life
preempted = refl

new_mask : on (take 10 life) 1 ≡ Some 1
unfolding on standing last_of life
new_mask = refl

new_mask_takes_off : on (take 11 life) 1 ≡ None
unfolding on standing last_of life
new_mask_takes_off = refl

gave_way : at 2 (take 13 life) 1 ≡ None
unfolding at on standing last_of life
gave_way = refl

-- a CPU that is not below the count is not looked at
at_below_count : at 1 (take 3 life) 1 ≡ None
unfolding at on standing last_of life
at_below_count = refl

never_was : record_in (take 1 life) 1 ≡ records.Absent
unfolding record_in record_of messages posted standing latest last_of life
never_was = refl

record_created : record_in (take 4 life) 1 ≡ records.Live (facts true 3)
unfolding record_in record_of messages posted standing latest last_of life
record_created = refl

record_blocked : record_in (take 5 life) 1 ≡ records.Live (facts false 3)
unfolding record_in record_of messages posted standing latest last_of life facts
record_blocked = refl

record_woken : record_in (take 6 life) 1 ≡ records.Live (facts true 3)
unfolding record_in record_of messages posted standing latest last_of life facts
record_woken = refl

record_preempted : record_in (take 8 life) 1 ≡ records.Live (facts true 3)
unfolding record_in record_of messages posted standing latest last_of life facts
record_preempted = refl

record_masked : record_in (take 10 life) 1 ≡ records.Live (facts true 2)
unfolding record_in record_of messages posted standing latest last_of life facts
record_masked = refl

record_masked_off : record_in (take 13 life) 1 ≡ records.Live (facts true 1)
unfolding record_in record_of messages posted standing latest last_of life facts
record_masked_off = refl

record_dead : record_in life 1 ≡ records.Dead
unfolding record_in record_of messages posted standing latest last_of life
record_dead = refl

record_other : record_in life 2 ≡ records.Absent
unfolding record_in record_of messages posted standing latest last_of life
record_other = refl

seq_all : seq 0 life 1 ≡ 8
unfolding seq messages posted life
seq_all = refl

seq_none : seq 7 (take 1 life) 1 ≡ 0
unfolding seq messages posted life
seq_none = refl

seq_first : seq 4294967294 (take 2 life) 1 ≡ 4294967295
unfolding seq messages posted life
seq_first = refl

seq_other : seq 7 life 2 ≡ 0
unfolding seq messages posted life
seq_other = refl

-- what was posted has the tick too
posted_ticks : posted (take 4 life) ≡ Thread 1 1 (Created (facts true 3)) ∷ TimerTick 0 ∷ []
unfolding posted life
posted_ticks = refl

created_once : created life ≡ Thread 1 1 (Created (facts true 3)) ∷ []
unfolding created posted life
created_once = refl

state_blocked : state 0 (take 5 life) 1 ≡ Some (record { facts = facts false 3; tseq = 2 })
unfolding state seq record_in record_of messages posted standing latest last_of life facts
state_blocked = refl

state_dead : state 0 life 1 ≡ None
unfolding state seq record_in record_of messages posted standing latest last_of life
state_dead = refl

-- two threads on one CPU: the later one is there, and what the first does changes nothing
displaced : on (Placed 1 1 1 1 ∷ Placed 2 1 1 1 ∷ Posted (Thread 1 2 (Blocked 1)) ∷ []) 1 ≡ Some 2
unfolding on standing last_of
displaced = refl

torn_takes_off : on (Placed 1 1 1 1 ∷ Torn ∷ []) 1 ≡ None
unfolding on standing last_of
torn_takes_off = refl

-- a death before any creation, and what follows a death
dead_first : record_in (Posted (Thread 1 1 (Dead None)) ∷ Posted (Thread 1 2 (Created (facts true 3))) ∷ []) 1 ≡ records.Dead
unfolding record_in record_of messages posted standing latest last_of
dead_first = refl

-- agents and the other class: taken, given, taken, left, attaching, active elsewhere, attaching, torn down
agents : History
agents = Role 1 0 ∷ Taken 1 ∷ Given 1 ∷ Taken 1 ∷ Left ∷ Begin 2 ∷ Role 2 1 ∷ Begin 3 ∷ Torn ∷ []

active_first : active (take 4 agents) ≡ Some (1, 0)
unfolding active standing last_of agents
active_first = refl

active_left : active (take 5 agents) ≡ None
unfolding active standing last_of agents
active_left = refl

active_attaching : active (take 6 agents) ≡ None
unfolding active standing last_of agents
active_attaching = refl

active_next : active (take 7 agents) ≡ Some (2, 1)
unfolding active standing last_of agents
active_next = refl

active_ended : active (take 8 agents) ≡ None
unfolding active standing last_of agents
active_ended = refl

active_torn : active (Role 1 0 ∷ Torn ∷ []) ≡ None
unfolding active standing last_of
active_torn = refl

attaching_none : attaching (take 5 agents) ≡ None
unfolding attaching standing last_of agents
attaching_none = refl

attaching_second : attaching (take 6 agents) ≡ Some 2
unfolding attaching standing last_of agents
attaching_second = refl

attaching_ended : attaching (take 7 agents) ≡ None
unfolding attaching standing last_of agents
attaching_ended = refl

attaching_third : attaching (take 8 agents) ≡ Some 3
unfolding attaching standing last_of agents
attaching_third = refl

attaching_torn : attaching agents ≡ None
unfolding attaching standing last_of agents
attaching_torn = refl

generation_none : generation [] ≡ None
unfolding generation latest standing last_of
generation_none = refl

generation_left : generation (take 5 agents) ≡ Some 1
unfolding generation latest standing last_of agents
generation_left = refl

generation_begun : generation (take 6 agents) ≡ Some 2
unfolding generation latest standing last_of agents
generation_begun = refl

generation_torn : generation agents ≡ Some 3
unfolding generation latest standing last_of agents
generation_torn = refl

taken_first : taken (take 2 agents) 1 ≡ true
unfolding taken last_taken latest standing last_of agents
taken_first = refl

taken_given : taken (take 3 agents) 1 ≡ false
unfolding taken last_taken latest standing last_of agents
taken_given = refl

taken_again : taken agents 1 ≡ true
unfolding taken last_taken latest standing last_of agents
taken_again = refl

taken_other : taken agents 0 ≡ false
unfolding taken last_taken latest standing last_of agents
taken_other = refl

not_torn : torn (take 8 agents) ≡ false
unfolding torn agents
not_torn = refl

is_torn_down : torn agents ≡ true
unfolding torn agents
is_torn_down = refl
