-- What the CPUs that are left say of a plan from both ends.
use Rattle.std.proofs.Common.{◌≡◌, ◌≢◌, refl, ap, sym, ◌∙◌, subst, ℕ, zero, suc, ◌+◌, ◌*◌, ◌/◌, ◌^◌, ◌-◌, ◌<◌, ◌≤◌, ◌⊎◌, inl, inr, Bool, true, false, ◌&&◌, ◌||◌, Option, None, Some, List, [], ◌∷◌, ◌++◌, arith, append-nil}
use Rattle.std.specs.Prelude.{not, ◌==◌, bit_and}
use Rattle.std.specs.Int.{leading_zeros, w128}
use Rattle.std.proofs.Math.Bool.{and-true}
use Rattle.std.proofs.Math.Nat.{div-eq_of_lt, div-lt_iff_lt-mul, pow-succ', zero-div}
use Rattle.std.proofs.Math.Pow.{pow_mono}
use Rattle.std.proofs.lemmas.Bool.{cases_eq, cases_lt, eq-eqb, ne_eqb}
use Rattle.std.proofs.lemmas.Nat.{leading_top, pow_pos}
use Rattle.std.proofs.lemmas.List.Folds.{list_any-append}
use Rattle.gs_layout.specs.declared.facts.Class.{Class}
use Rattle.gs_layout.specs.declared.facts.Class.TheVariants.{Zero, One}
use Rattle.gs_layout.specs.declared.known.Known.{Known}
use Rattle.gs_status.specs.Masks.{has}
use Rattle.gs_status.proofs.Laws.{least_same}
use Rattle.gs_beliefs.specs.Cpus.{is_free}
use Rattle.gs_policy.specs.Shown.{Shown}
use Rattle.gs_policy.specs.declared.choice.Choice.{Choice}
use Rattle.gs_policy.specs.Plan.{is_on, uses}
use Rattle.integration_tests.specs.BothEnds.{cpu_for, end_for, is_left, placed_on, planned, suits}
use Rattle.integration_tests.specs.Greatest.{greatest, last_or}

-- it goes by the test below n alone
pub greatest_same : (test other : ℕ → Bool) (n : ℕ) → ((i : ℕ) → i < n → test i ≡ other i) → greatest test n ≡ greatest other n
unfolding greatest
greatest_same test other zero same = refl
greatest_same test other (suc n) same =
    ap (λ (b : Bool). last_or b n (greatest test n)) (same n (omega arith))
    ∙ ap (λ (o : Option ℕ). last_or (other n) n o) (greatest_same test other n (λ i l. same i (omega arith)))

-- none is the greatest if none passes
pub greatest_none : (test : ℕ → Bool) (n : ℕ) → ((i : ℕ) → i < n → test i ≡ false) → greatest test n ≡ None
unfolding greatest
greatest_none test zero none = refl
greatest_none test (suc n) none =
    ap (λ (b : Bool). last_or b n (greatest test n)) (none n (omega arith)) ∙ greatest_none test n (λ i l. none i (omega arith))

-- one that passes is the greatest if none above it does
pub greatest_found : (test : ℕ → Bool) (c d : ℕ) → test c ≡ true → ((i : ℕ) → c < i → test i ≡ false) → greatest test (suc c + d) ≡ Some c
unfolding greatest
greatest_found test c zero passes none =
    let e : suc c + 0 ≡ suc c = omega arith in
    ap (greatest test) e ∙ ap (λ (b : Bool). last_or b c (greatest test c)) passes
greatest_found test c (suc d) passes none =
    let e : suc c + suc d ≡ suc (suc c + d) = omega arith in
    ap (greatest test) e ∙ (ap (λ (b : Bool). last_or b (suc c + d) (greatest test (suc c + d))) (none (suc c + d) (omega arith)) ∙ greatest_found test c d passes none)

-- no CPU is in no mask
nobody : (c : ℕ) → has 0 c ≡ false
nobody c = ap (λ k. bit_and k 1 == 1) (zero-div (2 ^ c))

-- the place of the highest bit that is one is the greatest CPU
one_fits : (n p : ℕ) → 0 < p → p ≤ n → n < 2 * p → n / p ≡ 1
one_fits n p pos low high =
    let most : n / p < 2 = (div-lt_iff_lt-mul {k = p} {x = n} {y = 2} pos).1 high in
    by_least (cases_lt (n / p) 1) most
  where
    pos' : 0 < p
    pos' = pos

    low' : p ≤ n
    low' = low

    by_least : (n / p < 1) ⊎ (1 ≤ n / p) → n / p < 2 → n / p ≡ 1
    by_least (inl none) most = let small : n < 1 * p = (div-lt_iff_lt-mul {k = p} {x = n} {y = 1} pos').0 none in absurd (omega (arith, small, low'))
    by_least (inr some) most = omega arith

top_here : (n j : ℕ) → 2 ^ j ≤ n → n < 2 ^ suc j → has n j ≡ true
top_here n j low high =
    let twice : n < 2 * 2 ^ j = subst (λ k. n < k) (pow-succ' 2 j) high in
    ap (λ k. bit_and k 1 == 1) (one_fits n (2 ^ j) (pow_pos j) low twice)

none_above : (n j i : ℕ) → n < 2 ^ suc j → j < i → has n i ≡ false
none_above n j i high above =
    let grows : 2 ^ suc j ≤ 2 ^ i = pow_mono (omega arith) in
    let lt : n < 2 ^ i = omega (arith, grows, high) in
    ap (λ k. bit_and k 1 == 1) (div-eq_of_lt lt)

pub highest_within : (n : ℕ) → 0 < n → n < 2 ^ 128 → leading_zeros w128 n < 128
highest_within n pos fits = let top = leading_top 128 n pos fits in omega (arith, top.1)

pub greatest_of_some : (n : ℕ) → 0 < n → n < 2 ^ 128 → Some (127 - leading_zeros w128 n) ≡ greatest (has n) 128
greatest_of_some n pos fits =
    let top = leading_top 128 n pos fits in
    let j : ℕ = top.0 in
    let here : 127 - leading_zeros w128 n ≡ j = omega (arith, top.1) in
    let all : suc j + leading_zeros w128 n ≡ 128 = omega (arith, top.1) in
    ap Some here
    ∙ sym (ap (greatest (has n)) (sym all) ∙ greatest_found (has n) j (leading_zeros w128 n) (top_here n j top.2 top.3) (λ i above. none_above n j i top.3 above))

pub greatest_of_none : (n : ℕ) → n ≡ 0 → None ≡ greatest (has n) 128
greatest_of_none n none = sym (greatest_none (has n) 128 (λ c within. ap (λ k. has k c) none ∙ nobody c))

-- the CPUs that are left, which no choice so far uses, and the threads that come next complete the plan of all
pub record IsPlanning (s : Shown) (left : ℕ) (xs : List Choice) (next queue : List ℕ) : Type 0 where
  pub left_is : (c : ℕ) → has left c ≡ is_left s xs c
  pub rest : planned s xs next ≡ planned s [] queue

pub planning_start : (s : Shown) (left : ℕ) (xs : List Choice) (next queue : List ℕ) → ((c : ℕ) → has left c ≡ is_free s.cpus s.taken c) → xs ≡ [] → next ≡ queue
    → IsPlanning s left xs next queue
planning_start s left xs next queue free none same =
    record {
      left_is = λ c. free c ∙ (sym (and-true (is_free s.cpus s.taken c)) ∙ ap (λ (ys : List Choice). is_left s ys c) (sym none));
      rest = ap (λ (ys : List Choice). planned s ys next) none ∙ ap (planned s []) same;
    }

pub planning_end : (s : Shown) (left : ℕ) (xs : List Choice) (next queue : List ℕ) → IsPlanning s left xs next queue → next ≡ [] → xs ≡ planned s [] queue
planning_end s left xs next queue p none = ap (planned s xs) (sym none) ∙ p.rest

end_same : (class : Class) (f g : ℕ → Bool) → ((c : ℕ) → f c ≡ g c) → end_for class f ≡ end_for class g
end_same Zero f g same = least_same f g 128 (λ c below. same c)
end_same One f g same = greatest_same f g 128 (λ c below. same c)

cpu_same : (f g : ℕ → Bool) (o : Option Known) → ((c : ℕ) → f c ≡ g c) → cpu_for f o ≡ cpu_for g o
cpu_same f g None same = refl
cpu_same f g (Some k) same = end_same k.facts.class (suits f k) (suits g k) (λ c. ap (λ (b : Bool). b && has k.facts.mask c) (same c))

-- the thread whose turn it is has this CPU, or none
turn : (s : Shown) (left : ℕ) (xs : List Choice) (t : ℕ) (next later queue : List ℕ) (c : Option ℕ) → IsPlanning s left xs next queue → next ≡ t ∷ later
    → c ≡ cpu_for (has left) (s.view t) → planned s (xs ++ placed_on t c) later ≡ planned s [] queue
turn s left xs t next later queue c p first is =
    ap (λ (o : Option ℕ). planned s (xs ++ placed_on t o) later) (is ∙ cpu_same (has left) (is_left s xs) (s.view t) p.left_is)
    ∙ (ap (planned s xs) (sym first) ∙ p.rest)

pub planning_none : (s : Shown) (left : ℕ) (xs : List Choice) (t : ℕ) (next later queue : List ℕ) → IsPlanning s left xs next queue → next ≡ t ∷ later
    → None ≡ cpu_for (has left) (s.view t) → IsPlanning s left xs later queue
planning_none s left xs t next later queue p first is =
    record {
      left_is = p.left_is;
      rest = ap (λ (ys : List Choice). planned s ys later) (sym (append-nil xs)) ∙ turn s left xs t next later queue None p first is;
    }

left_out : (a b : Bool) → (a && not (b || true)) ≡ false
left_out true true = refl
left_out true false = refl
left_out false b = refl

left_in : (a b : Bool) → (a && not (b || false)) ≡ (a && not b)
left_in true true = refl
left_in true false = refl
left_in false b = refl

uses_more : (xs : List Choice) (x : Choice) (i : ℕ) → uses (xs ++ x ∷ []) i ≡ (uses xs i || ((x.cpu == i) || false))
uses_more xs x i = list_any-append (is_on i) xs (x ∷ [])

-- a choice uses its CPU up
left_more : (s : Shown) (left left' : ℕ) (xs : List Choice) (x : Choice) → ((c : ℕ) → has left c ≡ is_left s xs c) → has left' x.cpu ≡ false → ((c : ℕ) → c ≢ x.cpu → has left' c ≡ has left c)
    → (c : ℕ) → has left' c ≡ is_left s (xs ++ x ∷ []) c
left_more s left left' xs x is here others c =
    by_place (cases_eq c x.cpu) ∙ ap (λ (b : Bool). is_free s.cpus s.taken c && not b) (sym (uses_more xs x c))
  where
    is' : (c : ℕ) → has left c ≡ is_left s xs c
    is' = is

    here' : has left' x.cpu ≡ false
    here' = here

    others' : (c : ℕ) → c ≢ x.cpu → has left' c ≡ has left c
    others' = others

    by_place : (c ≡ x.cpu) ⊎ (c ≢ x.cpu) → has left' c ≡ (is_free s.cpus s.taken c && not (uses xs c || ((x.cpu == c) || false)))
    by_place (inl same) =
        ap (has left') same ∙ (here' ∙ sym (ap (λ (b : Bool). is_free s.cpus s.taken c && not (uses xs c || (b || false))) (eq-eqb x.cpu c (sym same)) ∙ left_out (is_free s.cpus s.taken c) (uses xs c)))
    by_place (inr other) =
        others' c other
        ∙ (is' c ∙ sym (ap (λ (b : Bool). is_free s.cpus s.taken c && not (uses xs c || (b || false))) (ne_eqb x.cpu c (λ same. other (sym same))) ∙ left_in (is_free s.cpus s.taken c) (uses xs c)))

pub planning_more : (s : Shown) (left left' : ℕ) (xs xs' : List Choice) (t c : ℕ) (next later queue : List ℕ) → IsPlanning s left xs next queue → next ≡ t ∷ later
    → Some c ≡ cpu_for (has left) (s.view t) → xs' ≡ xs ++ record { cpu = c; tid = t; preempt = false } ∷ [] → has left' c ≡ false → ((i : ℕ) → i ≢ c → has left' i ≡ has left i)
    → IsPlanning s left' xs' later queue
planning_more s left left' xs xs' t c next later queue p first is chosen here others =
    subst (λ (ys : List Choice). IsPlanning s left' ys later queue) (sym chosen) (record {
      left_is = left_more s left left' xs (record { cpu = c; tid = t; preempt = false }) p.left_is here others;
      rest = turn s left xs t next later queue (Some c) p first is;
    })
