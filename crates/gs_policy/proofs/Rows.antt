-- Worked rows: plans of small queues.
use Rattle.std.proofs.Common.{◌≡◌, refl, ℕ, true, false, Option, None, Some, List, [], ◌∷◌}
use Rattle.gs_layout.specs.declared.facts.Class.{Class}
use Rattle.gs_layout.specs.declared.facts.Class.TheVariants.{Zero, One}
use Rattle.gs_layout.specs.declared.known.Known.{Known}
use Rattle.gs_layout.specs.View.{look_up}
use Rattle.gs_status.specs.Masks.{has, least}
use Rattle.gs_beliefs.specs.declared.running.Running.{Running}
use Rattle.gs_beliefs.specs.Cpus.{Cpus}
use Rattle.gs_policy.specs.Plan.{plan, nobody, class_one_after}
use Rattle.gs_policy.specs.Shown.{Shown}

known : ℕ → Class → Known
known mask class = record { facts = record { runnable = true; mask = mask; class = class; name = [] }; tseq = 1 }

-- CPUs with these beliefs, the agent on the first
cpus : List (Option Running) → List (Option ℕ) → Cpus
cpus believed stamped = record { believed = believed; stamped = stamped; agent = Some 0 }

-- what is known of threads, what is believed, a mask of taken CPUs, and who waits
seen : List (ℕ × Known) → Cpus → ℕ → List ℕ → Shown
seen records s mask queue = record { view = look_up records; cpus = s; taken = has mask; queue = queue }

running : ℕ → ℕ → Option Running
running t ticks = Some (record { tid = t; tseq = 1; ticks = ticks })

-- two threads, two free CPUs
two_free : plan nobody (seen ((1, known 6 Zero) ∷ (2, known 6 Zero) ∷ []) (cpus (None ∷ None ∷ None ∷ []) (None ∷ None ∷ None ∷ [])) 0 (1 ∷ 2 ∷ []))
    ≡ record { cpu = 1; tid = 1; preempt = false } ∷ record { cpu = 2; tid = 2; preempt = false } ∷ []
unfolding known cpus seen least
two_free = refl

-- a stamp that was not collected keeps its CPU from both
one_stamped : plan nobody (seen ((1, known 6 Zero) ∷ (2, known 6 Zero) ∷ []) (cpus (None ∷ None ∷ None ∷ []) (None ∷ Some 3 ∷ None ∷ [])) 0 (1 ∷ 2 ∷ []))
    ≡ record { cpu = 2; tid = 1; preempt = false } ∷ []
unfolding known cpus seen least
one_stamped = refl

-- a CPU that the other class holds is left to it, free or not
one_taken : plan nobody (seen ((1, known 6 Zero) ∷ (2, known 6 Zero) ∷ []) (cpus (None ∷ None ∷ None ∷ []) (None ∷ None ∷ None ∷ [])) 2 (1 ∷ 2 ∷ []))
    ≡ record { cpu = 2; tid = 1; preempt = false } ∷ []
unfolding known cpus seen least
one_taken = refl

taken_runs : plan (class_one_after 0) (seen ((1, known 3 One) ∷ (2, known 3 Zero) ∷ []) (cpus (None ∷ running 1 9 ∷ []) (None ∷ None ∷ [])) 2 (2 ∷ [])) ≡ []
unfolding known cpus seen running least
taken_runs = refl

-- nobody is preempted if the first come first
first_waits : plan nobody (seen ((1, known 3 One) ∷ (2, known 3 Zero) ∷ []) (cpus (None ∷ running 1 9 ∷ []) (None ∷ None ∷ [])) 0 (2 ∷ [])) ≡ []
unfolding known cpus seen running least
first_waits = refl

-- a thread of class 0 preempts one of class 1 at once
zero_preempts : plan (class_one_after 2) (seen ((1, known 3 One) ∷ (2, known 3 Zero) ∷ []) (cpus (None ∷ running 1 0 ∷ []) (None ∷ None ∷ [])) 0 (2 ∷ []))
    ≡ record { cpu = 1; tid = 2; preempt = true } ∷ []
unfolding known cpus seen running least
zero_preempts = refl

-- but none of class 0
zero_waits : plan (class_one_after 2) (seen ((1, known 3 Zero) ∷ (2, known 3 Zero) ∷ []) (cpus (None ∷ running 1 9 ∷ []) (None ∷ None ∷ [])) 0 (2 ∷ [])) ≡ []
unfolding known cpus seen running least
zero_waits = refl

-- one of class 1 waits for the slice of another
one_waits : plan (class_one_after 2) (seen ((1, known 2 One) ∷ (2, known 2 One) ∷ []) (cpus (None ∷ running 1 1 ∷ []) (None ∷ None ∷ [])) 0 (2 ∷ [])) ≡ []
unfolding known cpus seen running least
one_waits = refl

one_preempts : plan (class_one_after 2) (seen ((1, known 2 One) ∷ (2, known 2 One) ∷ []) (cpus (None ∷ running 1 2 ∷ []) (None ∷ None ∷ [])) 0 (2 ∷ []))
    ≡ record { cpu = 1; tid = 2; preempt = true } ∷ []
unfolding known cpus seen running least
one_preempts = refl

-- a free CPU comes before one that is taken from somebody, also if it is greater
free_first : plan (class_one_after 0) (seen ((1, known 6 One) ∷ (2, known 6 Zero) ∷ []) (cpus (None ∷ running 1 0 ∷ None ∷ []) (None ∷ None ∷ None ∷ [])) 0 (2 ∷ []))
    ≡ record { cpu = 2; tid = 2; preempt = false } ∷ []
unfolding known cpus seen running least
free_first = refl
