-- Worked rows: orders of small queues.
use Rattle.std.proofs.Common.{◌≡◌, refl, ℕ, true, Option, None, Some, List, [], ◌∷◌}
use Rattle.gs_layout.specs.declared.facts.Class.{Class}
use Rattle.gs_layout.specs.declared.facts.Class.TheVariants.{Zero, One}
use Rattle.gs_layout.specs.declared.known.Known.{Known}
use Rattle.gs_layout.specs.View.{look_up}
use Rattle.gs_status.specs.Masks.{has, least}
use Rattle.gs_beliefs.specs.declared.running.Running.{Running}
use Rattle.gs_keyed.specs.Order.{in_order}
use Rattle.gs_policy.specs.Shown.{Shown}
use Rattle.keyed_policies.specs.ClassShare.{class_share}
use Rattle.keyed_policies.specs.HomeFirst.{home_first}

known : ℕ → Class → Known
known mask class = record { facts = record { runnable = true; mask = mask; class = class; name = [] }; tseq = 1 }

running : ℕ → ℕ → Option Running
running t ticks = Some (record { tid = t; tseq = 1; ticks = ticks })

-- four CPUs with these beliefs of the second and the third, the agent on the first. Threads 1 and 3 are of class 0, threads 2 and 4 of class 1. Thread 1
-- may run on CPUs 1 to 3, thread 2 on CPUs 2 and 3, the others on all
seen : Option Running → Option Running → List ℕ → Shown
seen one two queue =
    record {
      view = look_up ((1, known 14 Zero) ∷ (2, known 12 One) ∷ (3, known 15 Zero) ∷ (4, known 15 One) ∷ []);
      cpus = record { believed = None ∷ one ∷ two ∷ None ∷ []; stamped = None ∷ None ∷ None ∷ None ∷ []; agent = Some 0 };
      taken = has 0;
      queue = queue;
    }

-- CPU 1, the home of thread 1, is not free, and CPU 2, that of thread 2, is
home_of_two : in_order home_first (seen (running 3 0) None (1 ∷ 2 ∷ [])) ≡ 2 ∷ 1 ∷ []
unfolding known running seen least
home_of_two = refl

-- if both are free, who waits first comes first
both_homes : in_order home_first (seen None None (1 ∷ 2 ∷ [])) ≡ 1 ∷ 2 ∷ []
unfolding known running seen least
both_homes = refl

-- with weights of 2 and 1: class 0 has had 6 ticks, 3 for each of its weight, and class 1 has had 2
one_behind : in_order (class_share (record { zero_weight = 2; one_weight = 1 })) (seen (running 3 6) (running 4 2) (1 ∷ 2 ∷ [])) ≡ 2 ∷ 1 ∷ []
unfolding known running seen
one_behind = refl

-- two ticks later class 1 has had 4, and it is the turn of class 0
zero_behind : in_order (class_share (record { zero_weight = 2; one_weight = 1 })) (seen (running 3 6) (running 4 4) (1 ∷ 2 ∷ [])) ≡ 1 ∷ 2 ∷ []
unfolding known running seen
zero_behind = refl
