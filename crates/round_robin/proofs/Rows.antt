-- Worked rows: plans of small queues, by slices of two ticks for class 0 and one for class 1.
use Rattle.std.proofs.Common.{◌≡◌, refl, ℕ, true, false, Option, None, Some, List, [], ◌∷◌}
use Rattle.gs_layout.specs.declared.facts.Class.{Class}
use Rattle.gs_layout.specs.declared.facts.Class.TheVariants.{Zero, One}
use Rattle.gs_layout.specs.declared.known.Known.{Known}
use Rattle.gs_layout.specs.View.{look_up}
use Rattle.gs_status.specs.Masks.{has, least}
use Rattle.gs_beliefs.specs.declared.running.Running.{Running}
use Rattle.gs_policy.specs.Shown.{Shown}
use Rattle.round_robin.specs.declared.policy.RoundRobin.{RoundRobin}
use Rattle.round_robin.specs.RoundRobin.{round_robin}

slices : RoundRobin
slices = record { zero_slice = 2; one_slice = 1 }

known : ℕ → Class → Known
known mask class = record { facts = record { runnable = true; mask = mask; class = class; name = [] }; tseq = 1 }

running : ℕ → ℕ → Option Running
running t ticks = Some (record { tid = t; tseq = 1; ticks = ticks })

-- four CPUs with these beliefs of the last three and no stamp, the agent on the first, a mask of taken CPUs. Threads 1 and 2 are of
-- class 0, threads 3, 4 and 5 of class 1. Threads 1 to 4 may run on every CPU, thread 5 on CPU 2 alone
seen : Option Running → Option Running → Option Running → ℕ → List ℕ → Shown
seen one two three mask queue =
    record {
      view = look_up ((1, known 15 Zero) ∷ (2, known 15 Zero) ∷ (3, known 15 One) ∷ (4, known 15 One) ∷ (5, known 4 One) ∷ []);
      cpus = record { believed = None ∷ one ∷ two ∷ three ∷ []; stamped = None ∷ None ∷ None ∷ None ∷ []; agent = Some 0 };
      taken = has mask;
      queue = queue;
    }

-- thread 1 has had one tick of its two, thread 3 its one: thread 2 takes the free CPU, thread 4 that of thread 3, and thread 5 waits
one_preempted : round_robin slices (seen (running 1 1) (running 3 1) None 0 (2 ∷ 4 ∷ 5 ∷ []))
    ≡ record { cpu = 3; tid = 2; preempt = false } ∷ record { cpu = 2; tid = 4; preempt = true } ∷ []
unfolding slices known running seen least
one_preempted = refl

-- with one tick more it is the turn of thread 1 that is over, on the lesser CPU: thread 4 takes it, and thread 5 takes CPU 2
two_preempted : round_robin slices (seen (running 1 2) (running 3 1) None 0 (2 ∷ 4 ∷ 5 ∷ []))
    ≡ record { cpu = 3; tid = 2; preempt = false } ∷ record { cpu = 1; tid = 4; preempt = true } ∷ record { cpu = 2; tid = 5; preempt = true } ∷ []
unfolding slices known running seen least
two_preempted = refl

-- a CPU that the other class holds is not taken from anybody, nor is one on which an unknown thread is believed to run
none_usable : round_robin slices (seen (running 9 9) (running 3 9) (running 1 0) 4 (4 ∷ 5 ∷ [])) ≡ []
unfolding slices known running seen least
none_usable = refl
