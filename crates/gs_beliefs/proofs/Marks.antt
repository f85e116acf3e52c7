-- Sets of CPUs: those that are not in a mask, those below a number, and how many are left of a mask.
use Rattle.std.proofs.Common.{Bool, true, false, not, ◌≡◌, ◌≢◌, ℕ, zero, suc, ◌+◌, ◌-◌, ◌^◌, ◌<◌, ◌≤◌, ◌⊎◌, inl, inr, ◌&&◌, ap, sym, ◌∙◌, refl, arith, ⊎_elim}
use Rattle.std.proofs.Math.Bool.{and-true}
use Rattle.std.specs.Prelude.{nat_lt, ◌==◌}
use Rattle.std.specs.Int.{bit_at, bit_not, w128}
use Rattle.std.proofs.lemmas.Bool.{cases_lt, cases_eq, ne_eqb}
use Rattle.std.proofs.lemmas.Bool.Decides.{nat_tests}
use Rattle.std.proofs.lemmas.Nat.Bits.{bit_at-lt, bit_at_not}
use Rattle.gs_status.specs.Masks.{has}
use Rattle.gs_status.proofs.Laws.{has_by_bit, has_none_past}

flipped : (x : ℕ) → x < 2 → (1 - x == 1) ≡ not (x == 1)
flipped zero lt = refl
flipped (suc zero) lt = refl
flipped (suc (suc x)) lt = absurd (omega arith)

-- the CPUs that are not in a mask
pub has_others : (n c : ℕ) → n < 2 ^ 128 → has (bit_not w128 n) c ≡ (nat_lt c 128 && not (has n c))
has_others n c fits = by_place (cases_lt c 128)
  where
    by_place : (c < 128) ⊎ (128 ≤ c) → has (bit_not w128 n) c ≡ (nat_lt c 128 && not (has n c))
    by_place (inl lt) =
        let below : nat_lt c 128 ≡ true = grind (arith, nat_tests) in
        has_by_bit (bit_not w128 n) c
        ∙ (ap (λ (k : ℕ). k == 1) (bit_at_not w128 n c fits lt)
        ∙ (flipped (bit_at n c) (bit_at-lt n c)
        ∙ (ap not (sym (has_by_bit n c)) ∙ sym (ap (λ (b : Bool). b && not (has n c)) below))))
    by_place (inr past) =
        let above : nat_lt c 128 ≡ false = grind (arith, nat_tests) in
        let within : bit_not w128 n < 2 ^ 128 = omega arith in
        has_none_past (bit_not w128 n) c within past ∙ sym (ap (λ (b : Bool). b && not (has n c)) above)

-- the CPUs below a number, and one more
pub below_more : (m m' n : ℕ) → ((c : ℕ) → has m c ≡ nat_lt c n) → has m' n ≡ true → ((c : ℕ) → c ≢ n → has m' c ≡ has m c) → (c : ℕ) → has m' c ≡ nat_lt c (n + 1)
below_more m m' n below here others c = at (cases_eq c n)
  where
    at : (c ≡ n) ⊎ (c ≢ n) → has m' c ≡ nat_lt c (n + 1)
    at (inl e) = let within : true ≡ nat_lt c (n + 1) = grind (arith, nat_tests) in ap (has m') e ∙ (here ∙ within)
    at (inr other) = let same : nat_lt c n ≡ nat_lt c (n + 1) = grind (arith, nat_tests) in others c other ∙ (below c ∙ same)

abbrev one_if : Bool → ℕ
one_if true = 1
one_if false = 0

-- how many below a number pass a test
abbrev how_many : (ℕ → Bool) → ℕ → ℕ
how_many f zero = 0
how_many f (suc n) = one_if (f n) + how_many f n

many_same : (f g : ℕ → Bool) (n : ℕ) → ((c : ℕ) → c < n → g c ≡ f c) → how_many g n ≡ how_many f n
many_same f g zero same = refl
many_same f g (suc n) same =
    let here : one_if (g n) ≡ one_if (f n) = ap one_if (same n (omega arith)) in
    let rest : how_many g n ≡ how_many f n = many_same f g n (λ c lt. same c (omega arith)) in
    omega arith

less_here : (f g : ℕ → Bool) (n c : ℕ) → n ≡ c → f c ≡ true → g c ≡ false → ((d : ℕ) → d ≢ c → g d ≡ f d) → how_many g (suc n) < how_many f (suc n)
less_here f g n c e passes gone others =
    let before : one_if (f n) ≡ 1 = ap one_if (ap f e ∙ passes) in
    let after : one_if (g n) ≡ 0 = ap one_if (ap g e ∙ gone) in
    let rest : how_many g n ≡ how_many f n = many_same f g n (λ d l. let other : d ≢ c = omega arith in others d other) in
    omega arith

less_below : (f g : ℕ → Bool) (n : ℕ) → g n ≡ f n → how_many g n < how_many f n → how_many g (suc n) < how_many f (suc n)
less_below f g n same less = let here : one_if (g n) ≡ one_if (f n) = ap one_if same in omega arith

one_less : (f g : ℕ → Bool) (n c : ℕ) → c < n → f c ≡ true → g c ≡ false → ((d : ℕ) → d ≢ c → g d ≡ f d) → how_many g n < how_many f n
one_less f g zero c lt passes gone others = absurd (omega arith)
one_less f g (suc n) c lt passes gone others = by_place f g n c lt passes gone others (λ below. one_less f g n c below passes gone others) (cases_eq n c)
  where
    by_place : (f g : ℕ → Bool) (n c : ℕ) → c < suc n → f c ≡ true → g c ≡ false → ((d : ℕ) → d ≢ c → g d ≡ f d) → (c < n → how_many g n < how_many f n) → (n ≡ c) ⊎ (n ≢ c)
        → how_many g (suc n) < how_many f (suc n)
    by_place f g n c lt passes gone others rest (inl e) = less_here f g n c e passes gone others
    by_place f g n c lt passes gone others rest (inr other) = less_below f g n (others n other) (rest (omega arith))

-- how many CPUs a mask has
unfoldable pub remaining : ℕ → ℕ
remaining m = how_many (has m) 128

-- a mask without one of its CPUs has fewer
pub fewer_left : (m m' c : ℕ) → c < 128 → has m c ≡ true → has m' c ≡ false → ((d : ℕ) → d ≢ c → has m' d ≡ has m d) → remaining m' < remaining m
unfolding remaining
fewer_left m m' c lt is_in gone others = one_less (has m) (has m') 128 c lt is_in gone others

-- a CPU that no mask has is not missed
pub without_past : (m a c : ℕ) → m < 2 ^ 128 → 128 ≤ a → has m c ≡ (has m c && not (a == c))
without_past m a c fits past =
    ⊎_elim
    (λ e. let none : has m c ≡ false = has_none_past m c fits (omega (arith, e, past)) in none ∙ sym (ap (λ (x : Bool). x && not (a == c)) none))
    (λ other. sym (ap (λ (x : Bool). has m c && not x) (ne_eqb a c other) ∙ and-true (has m c)))
    (cases_eq a c)
