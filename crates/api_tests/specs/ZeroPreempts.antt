-- An example of a plan by a test of one's own: only threads of class 0 preempt.
use Rattle.std.specs.Prelude.{true, false, ◌≡◌, ℕ, is_some}
use Rattle.gs_layout.specs.declared.facts.Class.{Class}
use Rattle.gs_layout.specs.declared.facts.Class.TheVariants.{Zero, One}
use Rattle.gs_runq.specs.Queue.{Apart}
use Rattle.gs_beliefs.specs.Cpus.{believed_on, is_usable}
use Rattle.gs_policy.specs.Plan.{Taking, plan, runs_one}
use Rattle.gs_policy.specs.Safe.{IsSafePlan}
use Rattle.gs_policy.specs.Safety.{IsTaking, class_one_taking, plan_safe}
use Rattle.gs_policy.specs.Shown.{Shown}

-- a thread of class 0 may take a CPU from one of class 1 at once, and a thread of class 1 from nobody
abbrev pub zero_takes : Taking
zero_takes s Zero c = runs_one 0 s c
zero_takes s One c = false

-- so only usable CPUs are taken, on which somebody is believed to run
pub zero_taking : (s : Shown) → IsTaking s (zero_takes s)
zero_taking s = record { usable = usable; busy = busy }
  where
    usable : (class : Class) (c : ℕ) → zero_takes s class c ≡ true → is_usable s.cpus s.taken c ≡ true
    usable Zero c e = (class_one_taking 0 s).usable Zero c e
    usable One c e = absurd cc

    busy : (class : Class) (c : ℕ) → zero_takes s class c ≡ true → is_some (believed_on s.cpus c) ≡ true
    busy Zero c e = (class_one_taking 0 s).busy Zero c e
    busy One c e = absurd cc

-- and the plan is safe
pub zero_preempts-safe : (s : Shown) → Apart s.queue → IsSafePlan s (plan zero_takes s)
zero_preempts-safe s apart = plan_safe zero_takes s (zero_taking s) apart
