-- What the candidates that are left say of a plan.
use Rattle.std.proofs.Common.{◌≡◌, refl, ap, sym, ◌∙◌, ℕ, ◌+◌, ◌-◌, ◌≤◌, Bool, true, false, ◌&&◌, ◌||◌, Option, None, Some, List, [], ◌∷◌, ◌++◌, arith, length, append-nil, append_assoc, length-append}
use Rattle.std.specs.Prelude.{not, nat_lt, is_none}
use Rattle.std.proofs.Math.Bool.{and-true}
use Rattle.std.proofs.lemmas.Bool.{and_parts, both_ways, eqb-true, false_from_ne_true}
use Rattle.std.proofs.lemmas.Bool.Decides.{nat_tests}
use Rattle.std.proofs.lemmas.List.Folds.{list_any-append}
use Rattle.gs_layout.specs.declared.facts.Class.{Class}
use Rattle.gs_layout.specs.declared.facts.Class.TheVariants.{Zero, One}
use Rattle.gs_layout.specs.declared.known.Known.{Known}
use Rattle.gs_layout.specs.View.{Look}
use Rattle.gs_status.specs.Masks.{has, has_none, least}
use Rattle.gs_status.proofs.Laws.{least_beyond, least_none, least_same, nobody as nobody_in}
use Rattle.gs_beliefs.specs.Cpus.{believed_on, is_free, is_usable}
use Rattle.gs_policy.specs.declared.candidates.Candidates.{Candidates}
use Rattle.gs_policy.specs.declared.choice.Choice.{Choice}
use Rattle.gs_policy.specs.Candidates.{AreLeft, AreTakenBy, are_spent, busy_for, picked, plan_among, planned_of, is_busy_for}
use Rattle.gs_policy.specs.Plan.{Taking, choice, is_on, is_open, placed, plan, planned, uses}
use Rattle.gs_policy.specs.Safety.{IsTaking}
use Rattle.gs_policy.specs.Shown.{Shown}

pub uses_append : (xs ys : List Choice) (c : ℕ) → uses (xs ++ ys) c ≡ (uses xs c || uses ys c)
uses_append xs ys c = list_any-append (is_on c) xs ys

without_both : (a m x y : Bool) → ((a && m) && not (x || y)) ≡ (((a && not x) && m) && not y)
without_both true true x y = by_first x
  where
    by_first : (x : Bool) → not (x || y) ≡ (not x && true) && not y
    by_first true = refl
    by_first false = refl
without_both true false x y = without_none (not x) (not y)
  where
    without_none : (x y : Bool) → false ≡ ((x && false) && y)
    without_none true y = refl
    without_none false y = refl
without_both false m x y = refl

-- the CPUs that pass a test, without those that these choices use
abbrev unused : List Choice → (ℕ → Bool) → ℕ → Bool
unused xs f c = f c && not (uses xs c)

least_behind : (f : ℕ → Bool) (k : Known) (xs ys : List Choice) (n : ℕ) → least (is_open f k (xs ++ ys)) n ≡ least (is_open (unused xs f) k ys) n
least_behind f k xs ys n =
    least_same (is_open f k (xs ++ ys)) (is_open (unused xs f) k ys) n
    (λ c l. ap (λ (z : Bool). (f c && has k.facts.mask c) && not z) (uses_append xs ys c) ∙ without_both (f c) (has k.facts.mask c) (uses xs c) (uses ys c))

-- a choice behind others is one among the CPUs that those do not use
choice_behind : (n : ℕ) (f : ℕ → Bool) (p : Class → ℕ → Bool) (xs ys : List Choice) (t : ℕ) (o : Option Known) → choice n f p (xs ++ ys) t o ≡ choice n (unused xs f) (λ class. unused xs (p class)) ys t o
choice_behind n f p xs ys t None = refl
choice_behind n f p xs ys t (Some k) =
    ap (λ (z : Option ℕ). placed t z (least (is_open (p k.facts.class) k (xs ++ ys)) n)) (least_behind f k xs ys n)
    ∙ ap (λ (z : Option ℕ). placed t (least (is_open (unused xs f) k ys) n) z) (least_behind (p k.facts.class) k xs ys n)

-- and so are all that follow it
planned_behind : (n : ℕ) (f : ℕ → Bool) (p : Class → ℕ → Bool) (v : Look) (xs ys : List Choice) (ts : List ℕ) → planned n f p v (xs ++ ys) ts ≡ xs ++ planned n (unused xs f) (λ class. unused xs (p class)) v ys ts
planned_behind n f p v xs ys [] = refl
planned_behind n f p v xs ys (t ∷ ts) =
    ap (λ (zs : List Choice). planned n f p v zs ts) (ap (λ (zs : List Choice). (xs ++ ys) ++ zs) (choice_behind n f p xs ys t (v t)) ∙ append_assoc xs ys _)
    ∙ planned_behind n f p v xs (ys ++ choice n (unused xs f) (λ class. unused xs (p class)) ys t (v t)) ts

-- the first thread's choice comes before those of the others among the CPUs that are left
planned_next : (l l' : Candidates) (v : Look) (t : ℕ) (ts : List ℕ) → AreLeft l l' (picked l v t) → planned_of l v [] (t ∷ ts) ≡ picked l v t ++ planned_of l' v [] ts
planned_next l l' v t ts left =
    ap (λ (zs : List Choice). planned_of l v zs ts) (sym (append-nil (picked l v t)))
    ∙ (planned_behind 128 (has l.free) (is_busy_for l) v (picked l v t) [] ts ∙ sym (λ i. picked l v t ++ planned 128 (λ c. left.free c i) (λ class c. left.busy class c i) v [] ts))

pub planned_some : (l l' : Candidates) (v : Look) (x : Choice) (t : ℕ) (ts later : List ℕ) → ts ≡ t ∷ later → (x ∷ []) ≡ picked l v t → AreLeft l l' (picked l v t)
    → planned_of l v [] ts ≡ x ∷ planned_of l' v [] later
planned_some l l' v x t ts later first chosen left =
    ap (planned_of l v []) first ∙ (planned_next l l' v t later left ∙ ap (λ (zs : List Choice). zs ++ planned_of l' v [] later) (sym chosen))

pub planned_none : (l l' : Candidates) (v : Look) (t : ℕ) (ts later : List ℕ) → ts ≡ t ∷ later → [] ≡ picked l v t → AreLeft l l' (picked l v t) → planned_of l' v [] later ≡ planned_of l v [] ts
planned_none l l' v t ts later first chosen left =
    ap (λ (zs : List Choice). zs ++ planned_of l' v [] later) chosen ∙ sym (ap (planned_of l v []) first ∙ planned_next l l' v t later left)

-- none can be chosen: no CPU is in any of the three masks
record IsNone (l : Candidates) : Type 0 where
  free : (c : ℕ) → has l.free c ≡ false
  busy : (class : Class) (c : ℕ) → is_busy_for l class c ≡ false

in_none : (m : ℕ) → has_none m ≡ true → (c : ℕ) → has m c ≡ false
in_none m e c = ap (λ (n : ℕ). has n c) (eqb-true m 0 e) ∙ nobody_in c

spent_none : (l : Candidates) → are_spent l ≡ true → IsNone l
spent_none l e =
    let first = and_parts (has_none l.free) (has_none l.zero_class && has_none l.one_class) e in
    let busy = and_parts (has_none l.zero_class) (has_none l.one_class) first.1 in
    record { free = in_none l.free first.0; busy = by_class busy.0 busy.1 }
  where
    by_class : has_none l.zero_class ≡ true → has_none l.one_class ≡ true → (class : Class) (c : ℕ) → is_busy_for l class c ≡ false
    by_class zero one Zero c = in_none l.zero_class zero c
    by_class zero one One c = in_none l.one_class one c

least_spent : (f : ℕ → Bool) (k : Known) → ((c : ℕ) → f c ≡ false) → least (is_open f k []) 128 ≡ None
least_spent f k spent = least_none (is_open f k []) 128 (λ c l. ap (λ (z : Bool). (z && has k.facts.mask c) && not false) (spent c))

choice_spent : (l : Candidates) (t : ℕ) (o : Option Known) → IsNone l → choice 128 (has l.free) (is_busy_for l) [] t o ≡ []
choice_spent l t None s = refl
choice_spent l t (Some k) s =
    ap (λ (z : Option ℕ). placed t z (least (is_open (is_busy_for l k.facts.class) k []) 128)) (least_spent (has l.free) k s.free)
    ∙ ap (λ (z : Option ℕ). placed t None z) (least_spent (is_busy_for l k.facts.class) k (s.busy k.facts.class))

-- if none is left nothing is chosen
pub planned_spent : (l : Candidates) (v : Look) (ts : List ℕ) → are_spent l ≡ true → planned_of l v [] ts ≡ []
planned_spent l v [] e = refl
planned_spent l v (t ∷ ts) e = ap (λ (ys : List Choice). planned_of l v ys ts) (choice_spent l t (v t) (spent_none l e)) ∙ planned_spent l v ts e

pub choice_one : (n : ℕ) (f : ℕ → Bool) (p : Class → ℕ → Bool) (xs : List Choice) (t : ℕ) (o : Option Known) → length (choice n f p xs t o) ≤ 1
choice_one n f p xs t None = omega arith
choice_one n f p xs t (Some k) = by_least (least (is_open f k xs) n) (least (is_open (p k.facts.class) k xs) n)
  where
    by_least : (free busy : Option ℕ) → length (placed t free busy) ≤ 1
    by_least (Some c) busy = omega arith
    by_least None (Some c) = omega arith
    by_least None None = omega arith

pub few_behind : (n : ℕ) (f : ℕ → Bool) (p : Class → ℕ → Bool) (v : Look) (xs : List Choice) (ts : List ℕ) → length (planned n f p v xs ts) ≤ length xs + length ts
few_behind n f p v xs [] = omega arith
few_behind n f p v xs (t ∷ ts) =
    let more = few_behind n f p v (xs ++ choice n f p xs t (v t)) ts in omega (arith, more, length-append xs (choice n f p xs t (v t)), choice_one n f p xs t (v t))

-- no thread has more than one choice
pub planned_few : (l : Candidates) (v : Look) (ts : List ℕ) → length (planned_of l v [] ts) ≤ length ts
planned_few l v ts = omega (arith, few_behind 128 (has l.free) (is_busy_for l) v [] ts)

-- the choice of a thread, by masks
least_open : (f : ℕ → Bool) (k : Known) (o : Option ℕ) → o ≡ least (λ c. f c && has k.facts.mask c) 128 → least (is_open f k []) 128 ≡ o
least_open f k o e = least_same (is_open f k []) (λ c. f c && has k.facts.mask c) 128 (λ c h. and-true (f c && has k.facts.mask c)) ∙ sym e

picked_known : (l : Candidates) (v : Look) (t : ℕ) (k : Known) → Some k ≡ v t → choice 128 (has l.free) (is_busy_for l) [] t (Some k) ≡ picked l v t
picked_known l v t k known = ap (choice 128 (has l.free) (is_busy_for l) [] t) known

pub picked_unknown : (l : Candidates) (v : Look) (t : ℕ) → None ≡ v t → [] ≡ picked l v t
picked_unknown l v t unknown = ap (choice 128 (has l.free) (is_busy_for l) [] t) unknown

-- a free CPU of its mask
pub picked_free : (l : Candidates) (v : Look) (t : ℕ) (k : Known) (c : ℕ) → Some k ≡ v t → Some c ≡ least (λ i. has l.free i && has k.facts.mask i) 128
    → (record { cpu = c; tid = t; preempt = false } ∷ []) ≡ picked l v t
picked_free l v t k c known free =
    sym (ap (λ (z : Option ℕ). placed t z (least (is_open (is_busy_for l k.facts.class) k []) 128)) (least_open (has l.free) k (Some c) free))
    ∙ picked_known l v t k known

-- if there is none, one that it may take from somebody, if there is one
pub picked_busy : (l : Candidates) (v : Look) (t : ℕ) (k : Known) (busy : ℕ) (o : Option ℕ) → Some k ≡ v t
    → None ≡ least (λ i. has l.free i && has k.facts.mask i) 128 → busy ≡ busy_for l k.facts.class → o ≡ least (λ i. has busy i && has k.facts.mask i) 128
    → placed t None o ≡ picked l v t
picked_busy l v t k busy o known none is taken =
    sym (ap (λ (z : Option ℕ). placed t z (least (is_open (is_busy_for l k.facts.class) k []) 128)) (least_open (has l.free) k None none)
    ∙ ap (placed t None) (least_open (is_busy_for l k.facts.class) k o (taken ∙ ap (λ (m : ℕ). least (λ i. has m i && has k.facts.mask i) 128) is)))
    ∙ picked_known l v t k known

-- among 128 CPUs or among those that there are, if none passes past the last
record AreSame (n : ℕ) (f g : ℕ → Bool) (p q : Class → ℕ → Bool) : Type 0 where
  most : n ≤ 128
  free : (c : ℕ) → f c ≡ g c
  free_past : (c : ℕ) → n ≤ c → g c ≡ false
  busy : (class : Class) (c : ℕ) → p class c ≡ q class c
  busy_past : (class : Class) (c : ℕ) → n ≤ c → q class c ≡ false

least_to : (f g : ℕ → Bool) (n : ℕ) (k : Known) (xs : List Choice) → n ≤ 128 → ((c : ℕ) → f c ≡ g c) → ((c : ℕ) → n ≤ c → g c ≡ false)
    → least (is_open f k xs) 128 ≡ least (is_open g k xs) n
least_to f g n k xs most same past =
    let to_end : n + (128 - n) ≡ 128 = omega arith in
    least_same (is_open f k xs) (is_open g k xs) 128 (λ c l. ap (λ (z : Bool). (z && has k.facts.mask c) && not (uses xs c)) (same c))
    ∙ (ap (least (is_open g k xs)) (sym to_end)
    ∙ least_beyond (is_open g k xs) n (128 - n) (λ c l. ap (λ (z : Bool). (z && has k.facts.mask c) && not (uses xs c)) (past c l)))

choice_same : (n : ℕ) (f g : ℕ → Bool) (p q : Class → ℕ → Bool) (xs : List Choice) (t : ℕ) (o : Option Known) → AreSame n f g p q → choice 128 f p xs t o ≡ choice n g q xs t o
choice_same n f g p q xs t None s = refl
choice_same n f g p q xs t (Some k) s =
    ap (λ (z : Option ℕ). placed t z (least (is_open (p k.facts.class) k xs) 128)) (least_to f g n k xs s.most s.free s.free_past)
    ∙ ap (λ (z : Option ℕ). placed t (least (is_open g k xs) n) z) (least_to (p k.facts.class) (q k.facts.class) n k xs s.most (s.busy k.facts.class) (s.busy_past k.facts.class))

planned_same : (n : ℕ) (f g : ℕ → Bool) (p q : Class → ℕ → Bool) (v : Look) (xs : List Choice) (ts : List ℕ) → AreSame n f g p q → planned 128 f p v xs ts ≡ planned n g q v xs ts
planned_same n f g p q v xs [] s = refl
planned_same n f g p q v xs (t ∷ ts) s =
    ap (λ (ys : List Choice). planned 128 f p v (xs ++ ys) ts) (choice_same n f g p q xs t (v t) s) ∙ planned_same n f g p q v (xs ++ choice n g q xs t (v t)) ts s

past_last : (c n : ℕ) (a : Bool) → n ≤ c → (nat_lt c n && a) ≡ false
past_last c n a past = let e : nat_lt c n ≡ false = grind (arith, nat_tests) in ap (λ (x : Bool). x && a) e

-- none that may be taken is past the last
none_past : (s : Shown) (p : Class → ℕ → Bool) (class : Class) (c : ℕ) → IsTaking s p → length s.cpus.believed ≤ c → p class c ≡ false
none_past s p class c taking past = false_from_ne_true (p class c) (λ e. both_ways (is_usable s.cpus s.taken c) (past_last c (length s.cpus.believed) _ past) (taking.usable class c e))

-- what is planned among the free CPUs and those that may be taken is the plan
pub plan_all : (may_take : Taking) (s : Shown) (l : Candidates) → length s.cpus.believed ≤ 128 → ((c : ℕ) → has l.free c ≡ is_free s.cpus s.taken c) → IsTaking s (may_take s)
    → AreTakenBy (may_take s) l.zero_class l.one_class → plan_among l s ≡ plan may_take s
plan_all may_take s l most free taking taken =
    planned_same (length s.cpus.believed) (has l.free) (is_free s.cpus s.taken) (is_busy_for l) (may_take s) s.view [] s.queue
    (record {
      most = most;
      free = free;
      free_past = λ c past. ap (λ (x : Bool). x && is_none (believed_on s.cpus c)) (past_last c (length s.cpus.believed) _ past);
      busy = by_class;
      busy_past = λ class c past. none_past s (may_take s) class c taking past;
    })
  where
    by_class : (class : Class) (c : ℕ) → is_busy_for l class c ≡ may_take s class c
    by_class Zero c = taken.by_zero c
    by_class One c = taken.by_one c
