-- A plan from both ends: class 0 takes the least CPUs, class 1 the greatest, and nobody is preempted.
use Rattle.std.specs.Prelude.{Bool, true, false, not, ◌&&◌, ◌==◌, ◌≡◌, ◌≢◌, ℕ, Option, None, Some, List, [], ◌∷◌, ◌++◌}
use Rattle.std.proofs.Common.{refl, sym, ◌∙◌, subst, append-nil}
use Rattle.std.proofs.lemmas.Bool.{and_parts, eq-eqb, ne_eqb, not-true, or_from, or_left, or_right}
use Rattle.std.proofs.lemmas.List.Folds.{list_any-append}
use Rattle.gs_layout.specs.declared.facts.Class.{Class}
use Rattle.gs_layout.specs.declared.facts.Class.TheVariants.{Zero, One}
use Rattle.gs_layout.specs.declared.known.Known.{Known}
use Rattle.gs_status.specs.Masks.{has, least}
use Rattle.gs_status.specs.declared.mask.TheConstants.{MOST_CPUS}
use Rattle.gs_status.proofs.Laws.{least_passes}
use Rattle.gs_runq.specs.Queue.{is_in, Apart}
use Rattle.gs_beliefs.specs.Cpus.{is_free}
use Rattle.gs_policy.specs.declared.choice.Choice.{Choice}
use Rattle.gs_policy.specs.Plan.{chooses, is_of, uses}
use Rattle.gs_policy.specs.Safe.{IsSafePlan}
use Rattle.gs_policy.specs.Shown.{Shown}
use Rattle.gs_policy.specs.Safety.{free_safe, out_in, safe_more, safe_none}
use Rattle.integration_tests.specs.Greatest.{greatest, greatest_passes}

-- whether a CPU is free, and no choice of a plan uses it
abbrev pub is_left : Shown → List Choice → ℕ → Bool
is_left s xs c = is_free s.cpus s.taken c && not (uses xs c)

-- whether a CPU passes a test and is in a thread's mask
abbrev pub suits : (ℕ → Bool) → Known → ℕ → Bool
suits test k c = test c && has k.facts.mask c

-- from which end a class takes the CPUs that pass a test
abbrev pub end_for : Class → (ℕ → Bool) → Option ℕ
end_for Zero test = least test MOST_CPUS
end_for One test = greatest test MOST_CPUS

-- the CPU, among those that pass a test, for what is known of a thread
abbrev pub cpu_for : (ℕ → Bool) → Option Known → Option ℕ
cpu_for test None = None
cpu_for test (Some k) = end_for k.facts.class (suits test k)

-- a thread on a CPU, if there is one for it
abbrev pub placed_on : ℕ → Option ℕ → List Choice
placed_on t None = []
placed_on t (Some c) = record { cpu = c; tid = t; preempt = false } ∷ []

-- the choices of threads, one after another, behind those of a plan
abbrev pub planned : Shown → List Choice → List ℕ → List Choice
planned s xs [] = xs
planned s xs (t ∷ ts) = planned s (xs ++ placed_on t (cpu_for (is_left s xs) (s.view t))) ts

-- the plan for the waiting threads, in order
abbrev pub both_ends : Shown → List Choice
both_ends s = planned s [] s.queue

-- whichever end it is, the CPU passes
end_passes : (class : Class) (test : ℕ → Bool) (c : ℕ) → end_for class test ≡ Some c → test c ≡ true
end_passes Zero test c e = least_passes test MOST_CPUS c e
end_passes One test c e = greatest_passes test MOST_CPUS c e

-- the choice of a waiting thread is safe behind a plan that does not choose it yet
placed_on-safe : (s : Shown) (xs : List Choice) (t : ℕ) → IsSafePlan s xs → is_in t s.queue ≡ true → chooses xs t ≡ false
    → (o : Option Known) → s.view t ≡ o → (c : Option ℕ) → cpu_for (is_left s xs) o ≡ c → IsSafePlan s (xs ++ placed_on t c)
placed_on-safe s xs t safe waits unchosen o known None e = subst (IsSafePlan s) (sym (append-nil xs)) safe
placed_on-safe s xs t safe waits unchosen None known (Some c) e = absurd cc
placed_on-safe s xs t safe waits unchosen (Some k) known (Some c) e =
    let outer = and_parts (is_left s xs c) (has k.facts.mask c) (end_passes k.facts.class (suits (is_left s xs) k) c e) in
    let inner = and_parts (is_free s.cpus s.taken c) (not (uses xs c)) outer.0 in
    safe_more s xs (record { cpu = c; tid = t; preempt = false }) safe (free_safe s t c k waits known outer.1 inner.0) unchosen (not-true (uses xs c) inner.1)

-- and it is no choice of another thread
placed_on-other : (t u : ℕ) (c : Option ℕ) → t ≢ u → chooses (placed_on t c) u ≡ false
placed_on-other t u None differs = refl
placed_on-other t u (Some c) differs = or_from (t == u) false (ne_eqb t u differs) refl

unchosen_next : (xs : List Choice) (t u : ℕ) (c : Option ℕ) → t ≢ u → chooses xs u ≡ false → chooses (xs ++ placed_on t c) u ≡ false
unchosen_next xs t u c differs unchosen =
    list_any-append (is_of u) xs (placed_on t c) ∙ or_from (chooses xs u) (chooses (placed_on t c) u) unchosen (placed_on-other t u c differs)

planned-safe : (s : Shown) (xs : List Choice) (ts : List ℕ) → IsSafePlan s xs → Apart ts
    → ((t : ℕ) → is_in t ts ≡ true → is_in t s.queue ≡ true) → ((t : ℕ) → is_in t ts ≡ true → chooses xs t ≡ false) → IsSafePlan s (planned s xs ts)
planned-safe s xs [] safe apart waits unchosen = safe
planned-safe s xs (t ∷ ts) safe apart waits unchosen =
    let first : is_in t (t ∷ ts) ≡ true = or_left (t == t) (is_in t ts) (eq-eqb t t refl) in
    let cpu : Option ℕ = cpu_for (is_left s xs) (s.view t) in
    planned-safe s (xs ++ placed_on t cpu) ts
    (placed_on-safe s xs t safe (waits t first) (unchosen t first) (s.view t) refl cpu refl)
    apart.1
    (λ u later. waits u (or_right (t == u) (is_in u ts) later))
    (λ u later. unchosen_next xs t u cpu (out_in t u ts apart.0 later) (unchosen u (or_right (t == u) (is_in u ts) later)))

-- the plan is safe to stamp
pub both_ends-safe : (s : Shown) → Apart s.queue → IsSafePlan s (both_ends s)
both_ends-safe s apart = planned-safe s [] s.queue (safe_none s) apart (λ t waits. waits) (λ t waits. refl)
