-- What the CPUs of a short history were used for, computed.
use Rattle.std.proofs.Common.{◌≡◌, refl, ℕ, suc, true, false, None, [], ◌∷◌, List, map, take}
use Rattle.std.specs.List.{range_with_len}
use Rattle.gs_layout.specs.declared.facts.Class.TheVariants.{Zero}
use Rattle.gs_layout.specs.declared.message.Change.TheVariants as changes
use Rattle.gs_layout.specs.declared.message.Message.TheVariants.{Thread, TimerTick}
use Rattle.gs_journal.specs.declared.entry.Entry.TheVariants.{Posted, Placed, Role, Taken, Given, Torn}
use Rattle.gs_journal.specs.History.{History, active, last_taken, on, taken}
use Rattle.gs_journal.specs.Standing.{last_of, latest, standing}
use Rattle.gs_turns.specs.Stances.{stance}
use Rattle.gs_usage.specs.Uses.{is_wanted, mask_in, time_of, usage_of, use_of}
use Rattle.gs_usage.specs.declared.usage.Use.{Use}
use Rattle.gs_usage.specs.declared.usage.Use.TheVariants.{Other, Agent, Busy, Wanted, Idle}

-- thread 1 may run on CPUs 0 and 1, and thread 2 on CPU 2 alone. Thread 1 waits, is placed on CPU 1, and is preempted there. The other class takes CPU 2 and
-- gives it back, thread 2 waits for that CPU, the agent hands off from CPU 0 to CPU 2, thread 1 may run on CPU 2 from then on, and all is torn down
abbrev example : History
example =
    Role 1 0
    ∷ Posted (Thread 1 1 (changes.Created (record { mask = 3; runnable = true; class = Zero; name = [] })))
    ∷ Posted (TimerTick 1)
    ∷ Placed 1 1 1 1
    ∷ Posted (TimerTick 1)
    ∷ Posted (TimerTick 0)
    ∷ Taken 2
    ∷ Posted (Thread 2 1 (changes.Created (record { mask = 4; runnable = false; class = Zero; name = [] })))
    ∷ Posted (Thread 1 2 (changes.Preempted 1))
    ∷ Posted (TimerTick 2)
    ∷ Given 2
    ∷ Posted (Thread 2 2 changes.Wakeup)
    ∷ Posted (TimerTick 2)
    ∷ Role 2 2
    ∷ Posted (TimerTick 0)
    ∷ Posted (Thread 1 3 (changes.Affinity None false 4))
    ∷ Posted (TimerTick 1)
    ∷ Torn
    ∷ Posted (TimerTick 2)
    ∷ []

-- the use of a CPU behind each entry
abbrev uses : ℕ → List Use
uses c = map (λ (k : ℕ). use_of (take (suc k) example) c) (range_with_len 0 19)

first_uses : uses 0 ≡ Agent ∷ Agent ∷ Agent ∷ Agent ∷ Agent ∷ Agent ∷ Agent ∷ Agent ∷ Agent ∷ Agent ∷ Agent ∷ Agent ∷ Agent ∷ Wanted ∷ Wanted ∷ Idle ∷ Idle ∷ Idle ∷ Idle ∷ []
unfolding use_of is_wanted mask_in stance active taken last_taken on latest standing last_of
first_uses = refl

second_uses : uses 1 ≡ Idle ∷ Wanted ∷ Wanted ∷ Busy ∷ Busy ∷ Busy ∷ Busy ∷ Busy ∷ Wanted ∷ Wanted ∷ Wanted ∷ Wanted ∷ Wanted ∷ Wanted ∷ Wanted ∷ Idle ∷ Idle ∷ Idle ∷ Idle ∷ []
unfolding use_of is_wanted mask_in stance active taken last_taken on latest standing last_of
second_uses = refl

third_uses : uses 2 ≡ Idle ∷ Idle ∷ Idle ∷ Idle ∷ Idle ∷ Idle ∷ Other ∷ Other ∷ Other ∷ Other ∷ Idle ∷ Wanted ∷ Wanted ∷ Agent ∷ Agent ∷ Agent ∷ Agent ∷ Idle ∷ Idle ∷ []
unfolding use_of is_wanted mask_in stance active taken last_taken on latest standing last_of
third_uses = refl

usage_of_example : map (usage_of example) (range_with_len 0 3)
    ≡ record { busy = record { entries = 0; ticks = 0 }; agent = record { entries = 13; ticks = 1 }; other = record { entries = 0; ticks = 0 }; wanted = record { entries = 2; ticks = 1 }; idle = record { entries = 4; ticks = 0 } }
    ∷ record { busy = record { entries = 5; ticks = 1 }; agent = record { entries = 0; ticks = 0 }; other = record { entries = 0; ticks = 0 }; wanted = record { entries = 9; ticks = 1 }; idle = record { entries = 5; ticks = 1 } }
    ∷ record { busy = record { entries = 0; ticks = 0 }; agent = record { entries = 4; ticks = 0 }; other = record { entries = 4; ticks = 1 }; wanted = record { entries = 2; ticks = 1 }; idle = record { entries = 9; ticks = 1 } }
    ∷ []
unfolding usage_of time_of use_of is_wanted mask_in stance active taken last_taken on latest standing last_of
usage_of_example = refl
