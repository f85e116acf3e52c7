-- Plans are safe to stamp.
use Rattle.std.proofs.Common.{◌≡◌, ◌≢◌, refl, ap, sym, ◌∙◌, subst, ℕ, Bool, true, false, ◌&&◌, ◌||◌, Option, None, Some, List, [], ◌∷◌, ◌++◌, map, length, append-nil}
use Rattle.std.specs.Prelude.{◌==◌, not, is_some, is_none}
use Rattle.std.specs.List.{list_any}
use Rattle.std.proofs.lemmas.Bool.{and_parts, or_parts, or_left, or_right, or_from, not-true, eqb-true, eqb-false, eq-eqb, ne_eqb}
use Rattle.std.proofs.lemmas.List.Folds.{list_any-append}
use Rattle.gs_layout.specs.declared.facts.Class.{Class}
use Rattle.gs_layout.specs.declared.known.Known.{Known}
use Rattle.gs_layout.specs.View.{Look}
use Rattle.gs_status.specs.Masks.{has, least}
use Rattle.gs_status.proofs.Laws.{least_passes}
use Rattle.gs_runq.specs.Queue.{is_in, Apart, IsOut}
use Rattle.gs_beliefs.specs.declared.running.Running.{Running}
use Rattle.gs_beliefs.specs.Cpus.{believed_on, is_free, is_usable}
use Rattle.gs_policy.specs.declared.any.AnyPolicy.{AnyPolicy}
use Rattle.gs_policy.specs.declared.any.AnyPolicy.TheVariants.{FirstCome, TwoClass}
use Rattle.gs_policy.specs.declared.choice.Choice.{Choice}
use Rattle.gs_policy.specs.Any.{any_takes}
use Rattle.gs_policy.specs.Plan.{Taking, choice, chooses, class_one_after, has_had, is_of, is_open, nobody, placed, plan, planned, slice_for, uses}
use Rattle.gs_policy.specs.Safe.{AreSafe, IsSafeChoice, IsSafePlan, allows}
use Rattle.gs_policy.specs.Shown.{Shown}

-- a plan without a choice is safe
pub safe_none : (s : Shown) → IsSafePlan s []
safe_none s = record { choices = tt; threads_apart = tt; cpus_apart = tt }

choices_more : (s : Shown) (xs : List Choice) (x : Choice) → AreSafe s xs → IsSafeChoice s x → AreSafe s (xs ++ x ∷ [])
choices_more s [] x safe more = (more, tt)
choices_more s (y ∷ ys) x safe more = (safe.0, choices_more s ys x safe.1 more)

out_more : (f : Choice → ℕ) (k : ℕ) (xs : List Choice) (x : Choice) → IsOut k (map f xs) → k ≢ f x → IsOut k (map f (xs ++ x ∷ []))
out_more f k [] x out differs = (differs, tt)
out_more f k (y ∷ ys) x out differs = (out.0, out_more f k ys x out.1 differs)

apart_more : (f : Choice → ℕ) (xs : List Choice) (x : Choice) → Apart (map f xs) → list_any (λ y. f y == f x) xs ≡ false → Apart (map f (xs ++ x ∷ []))
apart_more f [] x apart none = (tt, tt)
apart_more f (y ∷ ys) x apart none =
    let parts = or_parts (f y == f x) (list_any (λ z. f z == f x) ys) none in
    (out_more f (f y) ys x apart.0 (eqb-false (f y) (f x) parts.0), apart_more f ys x apart.1 parts.1)

-- a safe choice more, of a thread that is not chosen yet and on a CPU that is not used yet
pub safe_more : (s : Shown) (xs : List Choice) (x : Choice) → IsSafePlan s xs → IsSafeChoice s x
    → chooses xs x.tid ≡ false → uses xs x.cpu ≡ false → IsSafePlan s (xs ++ x ∷ [])
safe_more s xs x safe more unchosen unused =
    record {
      choices = choices_more s xs x safe.choices more;
      threads_apart = apart_more (λ y. y.tid) xs x safe.threads_apart unchosen;
      cpus_apart = apart_more (λ y. y.cpu) xs x safe.cpus_apart unused;
    }

nobody_there : (o : Option Running) → is_none o ≡ true → false ≡ is_some o
nobody_there None e = refl
nobody_there (Some r) e = absurd cc

-- a waiting thread on a free CPU of its mask is a safe choice
pub free_safe : (s : Shown) (t c : ℕ) (k : Known) → is_in t s.queue ≡ true → s.view t ≡ Some k → has k.facts.mask c ≡ true → is_free s.cpus s.taken c ≡ true
    → IsSafeChoice s (record { cpu = c; tid = t; preempt = false })
free_safe s t c k waits known mask free =
    let parts = and_parts (is_usable s.cpus s.taken c) (is_none (believed_on s.cpus c)) free in
    record {
      waits = waits;
      usable = parts.0;
      allowed = ap (λ (o : Option Known). allows o c) known ∙ mask;
      preempts = nobody_there (believed_on s.cpus c) parts.1;
    }

-- and so it is on a usable CPU of its mask on which somebody is believed to run, with leave to preempt
pub busy_safe : (s : Shown) (t c : ℕ) (k : Known) → is_in t s.queue ≡ true → s.view t ≡ Some k → has k.facts.mask c ≡ true → is_usable s.cpus s.taken c ≡ true
    → is_some (believed_on s.cpus c) ≡ true → IsSafeChoice s (record { cpu = c; tid = t; preempt = true })
busy_safe s t c k waits known mask usable busy =
    record { waits = waits; usable = usable; allowed = ap (λ (o : Option Known). allows o c) known ∙ mask; preempts = sym busy }

-- what may be taken is usable, and somebody is believed to run there
pub record IsTaking (s : Shown) (p : Class → ℕ → Bool) : Type 0 where
  pub usable : (class : Class) (c : ℕ) → p class c ≡ true → is_usable s.cpus s.taken c ≡ true
  pub busy : (class : Class) (c : ℕ) → p class c ≡ true → is_some (believed_on s.cpus c) ≡ true

-- what is open passes the test, is in the mask, and is not used
pub is_open_parts : (f : ℕ → Bool) (k : Known) (xs : List Choice) (c : ℕ) → is_open f k xs c ≡ true → (f c ≡ true) × (has k.facts.mask c ≡ true) × (uses xs c ≡ false)
is_open_parts f k xs c open' =
    let outer = and_parts (f c && has k.facts.mask c) (not (uses xs c)) open' in
    let inner = and_parts (f c) (has k.facts.mask c) outer.0 in
    (inner.0, inner.1, not-true (uses xs c) outer.1)

-- the choice of a waiting thread is safe behind a plan that does not choose it yet
choice_safe : (s : Shown) (n : ℕ) (p : Class → ℕ → Bool) (xs : List Choice) (t : ℕ) (o : Option Known)
    → IsTaking s p → IsSafePlan s xs → is_in t s.queue ≡ true → chooses xs t ≡ false → s.view t ≡ o → IsSafePlan s (xs ++ choice n (is_free s.cpus s.taken) p xs t o)
choice_safe s n p xs t None taking safe waits unchosen known = subst (IsSafePlan s) (sym (append-nil xs)) safe
choice_safe s n p xs t (Some k) taking safe waits unchosen known =
    by_least (least (is_open (is_free s.cpus s.taken) k xs) n) refl (least (is_open (p k.facts.class) k xs) n) refl
  where
    taking' : IsTaking s p
    taking' = taking

    safe' : IsSafePlan s xs
    safe' = safe

    waits' : is_in t s.queue ≡ true
    waits' = waits

    unchosen' : chooses xs t ≡ false
    unchosen' = unchosen

    known' : s.view t ≡ Some k
    known' = known

    by_least : (free : Option ℕ) → least (is_open (is_free s.cpus s.taken) k xs) n ≡ free → (busy : Option ℕ) → least (is_open (p k.facts.class) k xs) n ≡ busy → IsSafePlan s (xs ++ placed t free busy)
    by_least (Some c) e busy e' =
        let parts = is_open_parts (is_free s.cpus s.taken) k xs c (least_passes (is_open (is_free s.cpus s.taken) k xs) n c e) in
        safe_more s xs (record { cpu = c; tid = t; preempt = false }) safe' (free_safe s t c k waits' known' parts.1 parts.0) unchosen' parts.2
    by_least None e (Some c) e' =
        let parts = is_open_parts (p k.facts.class) k xs c (least_passes (is_open (p k.facts.class) k xs) n c e') in
        let usable = taking'.usable k.facts.class c parts.0 in
        safe_more s xs (record { cpu = c; tid = t; preempt = true }) safe' (busy_safe s t c k waits' known' parts.1 usable (taking'.busy k.facts.class c parts.0)) unchosen' parts.2
    by_least None e None e' = subst (IsSafePlan s) (sym (append-nil xs)) safe'

-- a thread that is out of these is none of them
pub out_in : (t u : ℕ) (ts : List ℕ) → IsOut t ts → is_in u ts ≡ true → t ≢ u
out_in t u [] out waits = absurd cc
out_in t u (x ∷ xs) out waits = by_place (out_in t u xs) (x == u) refl waits
  where
    out' : IsOut t (x ∷ xs)
    out' = out

    by_place : (IsOut t xs → is_in u xs ≡ true → t ≢ u) → (b : Bool) → (x == u) ≡ b → (b || is_in u xs) ≡ true → t ≢ u
    by_place more true e w = λ same. out'.0 (same ∙ sym (eqb-true x u e))
    by_place more false e w = more out'.1 w

placed_chooses : (t u : ℕ) (free busy : Option ℕ) → t ≢ u → chooses (placed t free busy) u ≡ false
placed_chooses t u (Some c) busy differs = or_from (t == u) false (ne_eqb t u differs) refl
placed_chooses t u None (Some c) differs = or_from (t == u) false (ne_eqb t u differs) refl
placed_chooses t u None None differs = refl

choice_chooses : (n : ℕ) (f : ℕ → Bool) (p : Class → ℕ → Bool) (xs : List Choice) (t u : ℕ) (o : Option Known) → t ≢ u → chooses (choice n f p xs t o) u ≡ false
choice_chooses n f p xs t u None differs = refl
choice_chooses n f p xs t u (Some k) differs = placed_chooses t u (least (is_open f k xs) n) (least (is_open (p k.facts.class) k xs) n) differs

chooses_next : (n : ℕ) (f : ℕ → Bool) (p : Class → ℕ → Bool) (xs : List Choice) (t u : ℕ) (o : Option Known) → t ≢ u → chooses xs u ≡ false → chooses (xs ++ choice n f p xs t o) u ≡ false
chooses_next n f p xs t u o differs unchosen =
    list_any-append (is_of u) xs (choice n f p xs t o) ∙ or_from (chooses xs u) (chooses (choice n f p xs t o) u) unchosen (choice_chooses n f p xs t u o differs)

planned_safe : (s : Shown) (n : ℕ) (p : Class → ℕ → Bool) (xs : List Choice) (ts : List ℕ) → IsTaking s p → IsSafePlan s xs → Apart ts
    → ((t : ℕ) → is_in t ts ≡ true → is_in t s.queue ≡ true) → ((t : ℕ) → is_in t ts ≡ true → chooses xs t ≡ false) → IsSafePlan s (planned n (is_free s.cpus s.taken) p s.view xs ts)
planned_safe s n p xs [] taking safe apart waits unchosen = safe
planned_safe s n p xs (t ∷ ts) taking safe apart waits unchosen =
    let first : is_in t (t ∷ ts) ≡ true = or_left (t == t) (is_in t ts) (eq-eqb t t refl) in
    planned_safe s n p (xs ++ choice n (is_free s.cpus s.taken) p xs t (s.view t)) ts taking
    (choice_safe s n p xs t (s.view t) taking safe (waits t first) (unchosen t first) refl)
    apart.1
    (λ u later. waits u (or_right (t == u) (is_in u ts) later))
    (λ u later. chooses_next n (is_free s.cpus s.taken) p xs t u (s.view t) (out_in t u ts apart.0 later) (unchosen u (or_right (t == u) (is_in u ts) later)))

-- whoever may take only usable CPUs on which somebody is believed to run plans safely
pub plan_safe : (may_take : Taking) (s : Shown) → IsTaking s (may_take s) → Apart s.queue → IsSafePlan s (plan may_take s)
plan_safe may_take s taking apart =
    planned_safe s (length s.cpus.believed) (may_take s) [] s.queue taking (safe_none s) apart (λ t waits. waits) (λ t waits. refl)

-- nobody takes a CPU from anybody
pub nobody_taking : (s : Shown) → IsTaking s (nobody s)
nobody_taking s = record { usable = λ class c e. absurd cc; busy = λ class c e. absurd cc }

somebody : (ticks : ℕ) (v : Look) (o : Option Running) → has_had ticks v o ≡ true → is_some o ≡ true
somebody ticks v None e = absurd cc
somebody ticks v (Some r) e = refl

-- from threads of class 1
pub class_one_taking : (slice : ℕ) (s : Shown) → IsTaking s (class_one_after slice s)
class_one_taking slice s =
    record {
      usable = λ class c e. (and_parts (is_usable s.cpus s.taken c) (has_had (slice_for slice class) s.view (believed_on s.cpus c)) e).0;
      busy = λ class c e. somebody (slice_for slice class) s.view (believed_on s.cpus c) (and_parts (is_usable s.cpus s.taken c) (has_had (slice_for slice class) s.view (believed_on s.cpus c)) e).1;
    }

-- and under either policy
pub any_taking : (p : AnyPolicy) (s : Shown) → IsTaking s (any_takes p s)
any_taking (FirstCome p) s = nobody_taking s
any_taking (TwoClass p) s = class_one_taking p.slice s

-- the plans of both policies are safe
pub nobody-safe : (s : Shown) → Apart s.queue → IsSafePlan s (plan nobody s)
nobody-safe s apart = plan_safe nobody s (nobody_taking s) apart

pub class_one_after-safe : (slice : ℕ) (s : Shown) → Apart s.queue → IsSafePlan s (plan (class_one_after slice) s)
class_one_after-safe slice s apart = plan_safe (class_one_after slice) s (class_one_taking slice s) apart

pub any-safe : (p : AnyPolicy) (s : Shown) → Apart s.queue → IsSafePlan s (plan (any_takes p) s)
any-safe p s apart = plan_safe (any_takes p) s (any_taking p s) apart
