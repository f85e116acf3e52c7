-- An example of a plan of one's own: only the thread that waits first is placed, on the least free CPU of its mask.
use Rattle.std.specs.Prelude.{Bool, true, false, ◌&&◌, ◌==◌, ◌≡◌, ℕ, Option, None, Some, List, [], ◌∷◌}
use Rattle.std.proofs.Common.{refl}
use Rattle.std.proofs.lemmas.Bool.{and_parts, eq-eqb, or_left}
use Rattle.gs_layout.specs.declared.known.Known.{Known}
use Rattle.gs_status.specs.declared.mask.TheConstants.{MOST_CPUS}
use Rattle.gs_status.specs.Masks.{has, least}
use Rattle.gs_status.proofs.Laws.{least_passes}
use Rattle.gs_runq.specs.Queue.{is_in, Apart}
use Rattle.gs_beliefs.specs.Cpus.{Cpus, is_free}
use Rattle.gs_policy.specs.declared.choice.Choice.{Choice}
use Rattle.gs_policy.specs.Safe.{IsSafePlan}
use Rattle.gs_policy.specs.Safety.{free_safe, safe_more, safe_none}
use Rattle.gs_policy.specs.Shown.{Shown}

-- whether a CPU is free and in a thread's mask
abbrev pub suits : Cpus → (ℕ → Bool) → Known → ℕ → Bool
suits cpus taken k c = is_free cpus taken c && has k.facts.mask c

-- the least CPU that suits what is known of a thread
abbrev pub free_for : Cpus → (ℕ → Bool) → Option Known → Option ℕ
free_for cpus taken None = None
free_for cpus taken (Some k) = least (suits cpus taken k) MOST_CPUS

-- a thread on a CPU, if there is one for it
abbrev pub placed_on : ℕ → Option ℕ → List Choice
placed_on t None = []
placed_on t (Some c) = record { cpu = c; tid = t; preempt = false } ∷ []

-- the choice for the first of these threads
abbrev pub first_of : Shown → List ℕ → List Choice
first_of s [] = []
first_of s (t ∷ ts) = placed_on t (free_for s.cpus s.taken (s.view t))

-- the plan
abbrev pub first_only : Shown → List Choice
first_only s = first_of s s.queue

-- what is placed so is safe
placed_on-safe : (s : Shown) (t : ℕ) (o : Option Known) → is_in t s.queue ≡ true → s.view t ≡ o → (c : Option ℕ) → free_for s.cpus s.taken o ≡ c → IsSafePlan s (placed_on t c)
placed_on-safe s t o waits known None e = safe_none s
placed_on-safe s t None waits known (Some c) e = absurd cc
placed_on-safe s t (Some k) waits known (Some c) e =
    let parts = and_parts (is_free s.cpus s.taken c) (has k.facts.mask c) (least_passes (suits s.cpus s.taken k) MOST_CPUS c e) in
    safe_more s [] (record { cpu = c; tid = t; preempt = false }) (safe_none s) (free_safe s t c k waits known parts.1 parts.0) refl refl

-- and so is that of the first, if all of these wait
first_of-safe : (s : Shown) (ts : List ℕ) → ((t : ℕ) → is_in t ts ≡ true → is_in t s.queue ≡ true) → IsSafePlan s (first_of s ts)
first_of-safe s [] waits = safe_none s
first_of-safe s (t ∷ ts) waits = placed_on-safe s t (s.view t) (waits t (or_left (t == t) (is_in t ts) (eq-eqb t t refl))) refl (free_for s.cpus s.taken (s.view t)) refl

pub first_only-safe : (s : Shown) → Apart s.queue → IsSafePlan s (first_only s)
first_only-safe s apart = first_of-safe s s.queue (λ t waits. waits)
