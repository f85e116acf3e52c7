-- Worked rows: plans from both ends, of small queues.
use Rattle.std.proofs.Common.{◌≡◌, refl, ℕ, true, false, List, Option, None, Some, [], ◌∷◌}
use Rattle.gs_layout.specs.declared.facts.Class.{Class}
use Rattle.gs_layout.specs.declared.facts.Class.TheVariants.{Zero, One}
use Rattle.gs_layout.specs.declared.known.Known.{Known}
use Rattle.gs_layout.specs.View.{look_up}
use Rattle.gs_status.specs.Masks.{has, least}
use Rattle.gs_policy.specs.Shown.{Shown}
use Rattle.gs_beliefs.specs.declared.running.Running.{Running}
use Rattle.gs_beliefs.specs.Cpus.{Cpus}
use Rattle.integration_tests.specs.BothEnds.{both_ends}
use Rattle.integration_tests.specs.Greatest.{greatest}

known : ℕ → Class → Known
known mask class = record { facts = record { runnable = true; mask = mask; class = class; name = [] }; tseq = 1 }

-- four CPUs, the agent on the first, and this belief of CPU 2
cpus : Option Running → Cpus
cpus third = record { believed = None ∷ None ∷ third ∷ None ∷ []; stamped = None ∷ None ∷ None ∷ None ∷ []; agent = Some 0 }

-- with these threads known, these CPUs taken, and these threads waiting
shown : List (ℕ × Known) → ℕ → Option Running → List ℕ → Shown
shown threads taken third queue = record { view = look_up threads; cpus = cpus third; taken = has taken; queue = queue }

-- class 0 from the low end, class 1 from the high end
one_of_each : both_ends (shown ((1, known 14 Zero) ∷ (2, known 14 One) ∷ []) 0 None (1 ∷ 2 ∷ []))
    ≡ record { cpu = 1; tid = 1; preempt = false } ∷ record { cpu = 3; tid = 2; preempt = false } ∷ []
unfolding known cpus shown least greatest
one_of_each = refl

-- a taken CPU is passed over
last_taken : both_ends (shown ((1, known 14 Zero) ∷ (2, known 14 One) ∷ []) 8 None (1 ∷ 2 ∷ []))
    ≡ record { cpu = 1; tid = 1; preempt = false } ∷ record { cpu = 2; tid = 2; preempt = false } ∷ []
unfolding known cpus shown least greatest
last_taken = refl

-- each thread keeps to its mask, and a CPU is used once
two_of_one : both_ends (shown ((1, known 6 One) ∷ (2, known 6 One) ∷ (3, known 6 One) ∷ []) 0 None (1 ∷ 2 ∷ 3 ∷ []))
    ≡ record { cpu = 2; tid = 1; preempt = false } ∷ record { cpu = 1; tid = 2; preempt = false } ∷ []
unfolding known cpus shown least greatest
two_of_one = refl

-- nobody is preempted
nobody_gives_way : both_ends (shown ((1, known 4 Zero) ∷ (9, known 4 One) ∷ []) 0 (Some (record { tid = 9; tseq = 1; ticks = 9 })) (1 ∷ [])) ≡ []
unfolding known cpus shown least greatest
nobody_gives_way = refl

-- a thread that is not known is passed over
unknown_waits : both_ends (shown ((2, known 15 One) ∷ []) 0 None (1 ∷ 2 ∷ [])) ≡ record { cpu = 3; tid = 2; preempt = false } ∷ []
unfolding known cpus shown least greatest
unknown_waits = refl
