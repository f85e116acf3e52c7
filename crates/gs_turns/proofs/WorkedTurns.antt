-- The turns of a short history, computed.
use Rattle.std.proofs.Common.{◌≡◌, refl, true, false, None, Some, [], ◌∷◌, map}
use Rattle.gs_layout.specs.declared.facts.Class.TheVariants.{Zero, One}
use Rattle.gs_layout.specs.declared.message.Change.TheVariants as changes
use Rattle.gs_layout.specs.declared.message.Message.TheVariants.{Thread, TimerTick}
use Rattle.gs_journal.specs.declared.entry.Entry.TheVariants.{Posted, Placed, Role}
use Rattle.gs_journal.specs.History.{History, on}
use Rattle.gs_journal.specs.Standing.{last_of, latest, standing}
use Rattle.gs_timeline.specs.declared.ending.Ending.TheVariants as endings
use Rattle.gs_timeline.specs.Stays.{all_stays, runs, seats, stay}
use Rattle.gs_turns.specs.Since.{since}
use Rattle.gs_turns.specs.Stances.{class_in, last_cpu, stance}
use Rattle.gs_turns.specs.Turns.{turn_of}

-- thread 1 is created runnable, and thread 2 is not. Thread 1 is placed on CPU 1, preempted there for thread 2, and placed on CPU 0 while agents change hands
abbrev example : History
example =
    Role 1 0
    ∷ Posted (Thread 1 1 (changes.Created (record { mask = 3; runnable = true; class = Zero; name = [] })))
    ∷ Posted (Thread 2 1 (changes.Created (record { mask = 3; runnable = false; class = One; name = [] })))
    ∷ Posted (TimerTick 1)
    ∷ Placed 1 1 1 1
    ∷ Posted (TimerTick 1)
    ∷ Posted (Thread 2 2 changes.Wakeup)
    ∷ Posted (TimerTick 1)
    ∷ Posted (TimerTick 0)
    ∷ Posted (Thread 1 2 (changes.Preempted 1))
    ∷ Placed 2 2 1 1
    ∷ Posted (TimerTick 0)
    ∷ Placed 1 2 0 1
    ∷ Role 2 3
    ∷ Posted (TimerTick 1)
    ∷ Posted (Thread 2 3 (changes.Affinity (Some 1) true 1))
    ∷ Posted (Thread 1 3 (changes.Blocked 0))
    ∷ Placed 2 3 0 2
    ∷ []

stays_of_example : all_stays example 2 ≡ stay 0 1 12 16 ∷ stay 0 2 17 18 ∷ stay 1 1 4 9 ∷ stay 1 2 10 15 ∷ []
unfolding all_stays runs seats on standing last_of
stays_of_example = refl

turns_of_example : map (turn_of example) (stay 1 1 4 9 ∷ stay 1 2 10 15 ∷ stay 0 1 12 16 ∷ stay 0 2 17 18 ∷ [])
    ≡ record { stay = stay 1 1 4 9; since = 1; class = Some Zero; before = None; waited_ticks = 1; ran_ticks = 2; ending = endings.Preempted }
    ∷ record { stay = stay 1 2 10 15; since = 6; class = Some One; before = None; waited_ticks = 1; ran_ticks = 1; ending = endings.Affinity }
    ∷ record { stay = stay 0 1 12 16; since = 9; class = Some Zero; before = Some 1; waited_ticks = 1; ran_ticks = 0; ending = endings.Blocked }
    ∷ record { stay = stay 0 2 17 18; since = 15; class = Some One; before = Some 1; waited_ticks = 0; ran_ticks = 0; ending = endings.StillThere }
    ∷ []
unfolding turn_of since stance class_in last_cpu latest standing last_of
turns_of_example = refl
