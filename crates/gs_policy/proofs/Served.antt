-- Plans in which the free CPUs serve all that wait.
use Rattle.std.proofs.Common.{Bool, false, ◌≡◌, ℕ, ◌+◌, ◌&&◌, Option, None, Some, List, [], ◌∷◌, ◌++◌, length, length-append, ap, sym, ◌∙◌, refl, arith}
use Rattle.std.specs.Prelude.{not}
use Rattle.gs_layout.specs.declared.facts.Class.{Class}
use Rattle.gs_layout.specs.declared.known.Known.{Known}
use Rattle.gs_layout.specs.View.{Look}
use Rattle.gs_status.specs.Masks.{has, least}
use Rattle.gs_status.proofs.Laws.{least_none}
use Rattle.gs_beliefs.specs.Cpus.{is_free}
use Rattle.gs_policy.specs.declared.choice.Choice.{Choice}
use Rattle.gs_policy.specs.Plan.{Taking, choice, is_open, nobody, placed, plan, planned, uses}
use Rattle.gs_policy.specs.Shown.{Shown}
use Rattle.gs_policy.proofs.Left.{choice_one, few_behind}

-- if nobody makes way, a thread that is placed is placed on a free CPU
placed_free : (t : ℕ) (free taken busy : Option ℕ) → taken ≡ None → length (placed t free taken) ≡ 1 → placed t free busy ≡ placed t free taken
placed_free t (Some c) taken busy is one = refl
placed_free t None taken busy is one =
    let zero : length (placed t None taken) ≡ 0 = ap (λ (o : Option ℕ). length (placed t None o)) is in absurd (omega (arith, zero, one))

-- and so whoever may make way
same_choice : (n : ℕ) (f : ℕ → Bool) (p q : Class → ℕ → Bool) (xs : List Choice) (t : ℕ) (o : Option Known) → ((class : Class) (c : ℕ) → q class c ≡ false)
    → length (choice n f q xs t o) ≡ 1 → choice n f p xs t o ≡ choice n f q xs t o
same_choice n f p q xs t None none one = refl
same_choice n f p q xs t (Some k) none one =
    placed_free t (least (is_open f k xs) n) (least (is_open (q k.facts.class) k xs) n) (least (is_open (p k.facts.class) k xs) n)
    (least_none (is_open (q k.facts.class) k xs) n (λ c l. ap (λ (b : Bool). (b && has k.facts.mask c) && not (uses xs c)) (none k.facts.class c))) one

served : (n : ℕ) (f : ℕ → Bool) (p q : Class → ℕ → Bool) (v : Look) (xs : List Choice) (ts : List ℕ) → ((class : Class) (c : ℕ) → q class c ≡ false)
    → length (planned n f q v xs ts) ≡ length xs + length ts → planned n f p v xs ts ≡ planned n f q v xs ts
served n f p q v xs [] none all = refl
served n f p q v xs (t ∷ ts) none all =
    let more = few_behind n f q v (xs ++ choice n f q xs t (v t)) ts in
    let one : length (choice n f q xs t (v t)) ≡ 1 = omega (arith, all, more, length-append xs (choice n f q xs t (v t)), choice_one n f q xs t (v t)) in
    ap (λ (ys : List Choice). planned n f p v (xs ++ ys) ts) (same_choice n f p q xs t (v t) none one)
    ∙ served n f p q v (xs ++ choice n f q xs t (v t)) ts none (omega (arith, all, one, length-append xs (choice n f q xs t (v t))))

-- if the plan that preempts nobody has a choice for each thread that waits, it is the plan, whoever may be preempted
pub plan_served : (may_take : Taking) (s : Shown) → length (plan nobody s) ≡ length s.queue → plan nobody s ≡ plan may_take s
plan_served may_take s all = sym (served (length s.cpus.believed) (is_free s.cpus s.taken) (may_take s) (nobody s) s.view [] s.queue (λ class c. refl) (omega (arith, all)))
