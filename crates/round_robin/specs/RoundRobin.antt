-- Weighted round robin: each class has a slice, and a CPU is taken from whoever has had it.
use Rattle.std.specs.Prelude.{Bool, true, false, ◌&&◌, ◌≡◌, ℕ, nat_le, Option, None, Some, is_some, List}
use Rattle.std.proofs.Common.{refl}
use Rattle.std.proofs.lemmas.Bool.{and_parts}
use Rattle.gs_layout.specs.declared.facts.Class.{Class}
use Rattle.gs_layout.specs.declared.facts.Class.TheVariants.{Zero, One}
use Rattle.gs_layout.specs.declared.known.Known.{Known}
use Rattle.gs_layout.specs.View.{Look}
use Rattle.gs_runq.specs.Queue.{Apart}
use Rattle.gs_beliefs.specs.declared.running.Running.{Running}
use Rattle.gs_beliefs.specs.Cpus.{Cpus, believed_on, is_usable}
use Rattle.gs_policy.specs.declared.choice.Choice.{Choice}
use Rattle.gs_policy.specs.Plan.{Taking, plan}
use Rattle.gs_policy.specs.Safe.{IsSafePlan}
use Rattle.gs_policy.specs.Safety.{IsTaking, plan_safe}
use Rattle.gs_policy.specs.Shown.{Shown}
use Rattle.round_robin.specs.declared.policy.RoundRobin.{RoundRobin}

-- how many ticks a thread of a class has
abbrev pub slice_of : RoundRobin → Class → ℕ
slice_of p Zero = p.zero_slice
slice_of p One = p.one_slice

-- whether so many ticks are the slice of a thread, by what is known of it, or more: a thread that is not known has had none
abbrev pub is_slice : RoundRobin → Option Known → ℕ → Bool
is_slice p None ticks = false
is_slice p (Some k) ticks = nat_le (slice_of p k.facts.class) ticks

-- whether somebody is believed to run who has had its slice
abbrev pub has_had_its_slice : RoundRobin → Look → Option Running → Bool
has_had_its_slice p v None = false
has_had_its_slice p v (Some r) = is_slice p (v r.tid) r.ticks

-- whether a CPU is usable, and whoever is believed to run there has had its slice
abbrev pub turn_is_over : RoundRobin → Look → Cpus → (ℕ → Bool) → ℕ → Bool
turn_is_over p v cpus taken c = is_usable cpus taken c && has_had_its_slice p v (believed_on cpus c)

-- a thread of either class may take such a CPU
abbrev pub turn_takes : RoundRobin → Taking
turn_takes p s class c = turn_is_over p s.view s.cpus s.taken c

-- the plan: the waiting threads, in order, each on the least free CPU of its mask, or else on the least that it may take
abbrev pub round_robin : RoundRobin → Shown → List Choice
round_robin p = plan (turn_takes p)

somebody : (p : RoundRobin) (v : Look) (o : Option Running) → has_had_its_slice p v o ≡ true → is_some o ≡ true
somebody p v None e = absurd cc
somebody p v (Some r) e = refl

-- only usable CPUs are taken, on which somebody is believed to run
pub turn_taking : (p : RoundRobin) (s : Shown) → IsTaking s (turn_takes p s)
turn_taking p s =
    record {
      usable = λ class c e. (and_parts (is_usable s.cpus s.taken c) (has_had_its_slice p s.view (believed_on s.cpus c)) e).0;
      busy = λ class c e. somebody p s.view (believed_on s.cpus c) (and_parts (is_usable s.cpus s.taken c) (has_had_its_slice p s.view (believed_on s.cpus c)) e).1;
    }

-- so the plan is safe
pub round_robin-safe : (p : RoundRobin) (s : Shown) → Apart s.queue → IsSafePlan s (round_robin p s)
round_robin-safe p s apart = plan_safe (turn_takes p) s (turn_taking p s) apart
