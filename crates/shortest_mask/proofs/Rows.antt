-- Worked rows: keys and plans of small queues.
use Rattle.std.proofs.Common.{◌≡◌, refl, ℕ, true, false, None, Some, List, [], ◌∷◌}
use lib.Count.{ones}
use Rattle.gs_layout.specs.declared.facts.Class.TheVariants.{One}
use Rattle.gs_layout.specs.declared.known.Known.{Known}
use Rattle.gs_layout.specs.View.{look_up}
use Rattle.gs_status.specs.Masks.{has, least}
use Rattle.gs_keyed.specs.Keyed.{keyed}
use Rattle.gs_keyed.specs.Order.{in_order}
use Rattle.gs_policy.specs.Shown.{Shown}
use Rattle.shortest_mask.specs.Key.{shortest_mask}

known : ℕ → Known
known mask = record { facts = record { runnable = true; mask = mask; class = One; name = [] }; tseq = 1 }

-- three CPUs, the agent on the first. Thread 1 may run on all, thread 2 on CPUs 1 and 2, threads 3 and 4 on CPU 2 alone
seen : List ℕ → Shown
seen queue =
    record {
      view = look_up ((1, known 7) ∷ (2, known 6) ∷ (3, known 4) ∷ (4, known 4) ∷ []);
      cpus = record { believed = None ∷ None ∷ None ∷ []; stamped = None ∷ None ∷ None ∷ []; agent = Some 0 };
      taken = has 0;
      queue = queue;
    }

-- threads 3 and 4 have the same key, and keep the order in which they wait
four_in_order : in_order shortest_mask (seen (1 ∷ 4 ∷ 2 ∷ 3 ∷ [])) ≡ 4 ∷ 3 ∷ 2 ∷ 1 ∷ []
unfolding known seen ones
four_in_order = refl

-- so thread 4 takes CPU 2, thread 2 takes CPU 1, and no CPU is left for threads 3 and 1
two_planned : keyed shortest_mask (seen (1 ∷ 4 ∷ 2 ∷ 3 ∷ []))
    ≡ record { cpu = 2; tid = 4; preempt = false } ∷ record { cpu = 1; tid = 2; preempt = false } ∷ []
unfolding known seen ones least
two_planned = refl
