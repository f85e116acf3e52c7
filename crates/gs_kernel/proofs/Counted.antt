-- How many CPUs are in a mask.
use Rattle.std.proofs.Common.{◌≡◌, ◌≢◌, refl, ap, sym, ◌∙◌, ℕ, zero, suc, ◌/◌, ◌%◌, ◌^◌, ◌<◌, ◌≤◌, ◌⊎◌, inl, inr, Bool, true, false, ◌==◌, count_ones, arith}
use Rattle.std.specs.Int.{bit_at}
use Rattle.std.specs.Int.Count.{ones_step}
use Rattle.std.proofs.lemmas.Bool.{cases_lt}
use Rattle.std.proofs.lemmas.Bool.Decides.{nat_tests}
use Rattle.std.proofs.lemmas.Nat.{zero_from_ones}
use Rattle.std.proofs.lemmas.Nat.Bits.{bit_at-lt, bit_at-suc, bit_at_above, bit_at_lowest, same_from_bits, shr_and_one}
use Rattle.gs_status.specs.Masks.{has, has_none, has_past}
use Rattle.gs_status.proofs.Laws.{is_zero, nobody}

-- a CPU is in a mask if its bit is one
has_bit : (n c : ℕ) → has n c ≡ (bit_at n c == 1)
has_bit n c = ap (λ (k : ℕ). k == 1) (shr_and_one n c)

bit_of : (x : ℕ) → (x == 1) ≡ true → x ≡ 1
bit_of x e = grind (arith, nat_tests)

no_bit : (x : ℕ) → x < 2 → (x == 1) ≡ false → x ≡ 0
no_bit zero lt e = refl
no_bit (suc zero) lt e = absurd cc
no_bit (suc (suc x)) lt e = absurd (omega arith)

bit_one : (n c : ℕ) → has n c ≡ true → bit_at n c ≡ 1
bit_one n c e = bit_of (bit_at n c) (sym (has_bit n c) ∙ e)

bit_none : (n c : ℕ) → has n c ≡ false → bit_at n c ≡ 0
bit_none n c e = no_bit (bit_at n c) (bit_at-lt n c) (sym (has_bit n c) ∙ e)

bit_same : (n m c : ℕ) → has m c ≡ has n c → bit_at m c ≡ bit_at n c
bit_same n m c e = by_test (has n c) refl
  where
    same : has m c ≡ has n c
    same = e

    by_test : (b : Bool) → has n c ≡ b → bit_at m c ≡ bit_at n c
    by_test true is = bit_one m c (same ∙ is) ∙ sym (bit_one n c is)
    by_test false is = bit_none m c (same ∙ is) ∙ sym (bit_none n c is)

-- the second number has the bits of the first but one of them
fewer : (c n m : ℕ) → bit_at n c ≡ 1 → bit_at m c ≡ 0 → ((i : ℕ) → i ≢ c → bit_at m i ≡ bit_at n i) → count_ones n ≡ suc (count_ones m)
fewer zero n m one none others =
    let half : m / 2 ≡ n / 2 = same_from_bits (m / 2) (n / 2) (λ i. sym (bit_at-suc m i) ∙ (others (suc i) (λ e. absurd (omega (arith, e))) ∙ bit_at-suc n i)) in
    let low : n % 2 ≡ 1 = sym (bit_at_lowest n) ∙ one in
    let low' : m % 2 ≡ 0 = sym (bit_at_lowest m) ∙ none in
    omega (arith, ones_step n, ones_step m, ap count_ones half, low, low')
fewer (suc c) n m one none others =
    let rest = fewer c (n / 2) (m / 2) (sym (bit_at-suc n c) ∙ one) (sym (bit_at-suc m c) ∙ none) (λ i other. sym (bit_at-suc m i) ∙ (others (suc i) (λ e. other (omega (arith, e))) ∙ bit_at-suc n i)) in
    let low : m % 2 ≡ n % 2 = sym (bit_at_lowest m) ∙ (others 0 (λ e. absurd (omega (arith, e))) ∙ bit_at_lowest n) in
    omega (arith, ones_step n, ones_step m, rest, low)

-- a mask without one of its CPUs has one less
pub count_without : (n m c : ℕ) → has n c ≡ true → has m c ≡ false → ((i : ℕ) → i ≢ c → has m i ≡ has n i) → count_ones n ≡ suc (count_ones m)
count_without n m c in_n not_m others = fewer c n m (bit_one n c in_n) (bit_none m c not_m) (λ i other. bit_same n m i (others i other))

-- a mask with no CPU past a count has its CPUs below it
pub has_below : (mask n c : ℕ) → has_past mask n ≡ false → has mask c ≡ true → c < n
has_below mask n c within there = by_place (cases_lt c n)
  where
    past_not : has_past mask n ≡ false
    past_not = within

    is_in : has mask c ≡ true
    is_in = there

    by_place : (c < n) ⊎ (n ≤ c) → c < n
    by_place (inl lt) = lt
    by_place (inr past) =
        let small : mask < 2 ^ n = grind (arith, nat_tests) in
        absurd (omega (arith, bit_at_above mask n c small past, bit_one mask c is_in))

-- an empty mask has no CPU
pub none_in : (mask : ℕ) → has_none mask ≡ true → (c : ℕ) → has mask c ≡ false
none_in mask none c = ap (λ m. has m c) (is_zero mask none) ∙ nobody c

-- a mask that has one is counted
pub count_some : (n c : ℕ) → has n c ≡ true → 0 < count_ones n
count_some n c there = by_count (count_ones n) refl
  where
    is_in : has n c ≡ true
    is_in = there

    by_count : (k : ℕ) → count_ones n ≡ k → 0 < k
    by_count zero e = let away : has n c ≡ false = ap (λ m. has m c) (zero_from_ones n e) ∙ nobody c in absurd cc
    by_count (suc k) e = omega arith

-- a mask without a CPU has no more than before
pub count_fewer : (n m c : ℕ) → has m c ≡ false → ((i : ℕ) → i ≢ c → has m i ≡ has n i) → count_ones m ≤ count_ones n
count_fewer n m c away others = by_test (has n c) refl
  where
    gone : has m c ≡ false
    gone = away

    same : (i : ℕ) → i ≢ c → has m i ≡ has n i
    same = others

    at_or_past : has n c ≡ false → (i : ℕ) → (c < i) ⊎ (i ≤ c) → c ≤ i → has m i ≡ has n i
    at_or_past e i (inl lt) le = same i (λ q. absurd (omega (arith, q, lt)))
    at_or_past e i (inr ge) le = let here : i ≡ c = omega (arith, ge, le) in ap (has m) here ∙ (gone ∙ sym (ap (has n) here ∙ e))

    all_same : has n c ≡ false → (i : ℕ) → (i < c) ⊎ (c ≤ i) → has m i ≡ has n i
    all_same e i (inl lt) = same i (λ q. absurd (omega (arith, q, lt)))
    all_same e i (inr le) = at_or_past e i (cases_lt c i) le

    by_test : (b : Bool) → has n c ≡ b → count_ones m ≤ count_ones n
    by_test true e = omega (arith, count_without n m c e gone same)
    by_test false e = let k : m ≡ n = same_from_bits m n (λ i. bit_same n m i (all_same e i (cases_lt i c))) in omega (arith, ap count_ones k)
