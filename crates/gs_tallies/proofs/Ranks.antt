-- The number at a rank of numbers that rise is their percentile.
use Rattle.std.proofs.Common.{◌≡◌, refl, ap, sym, ◌∙◌, subst, ℕ, zero, suc, ◌+◌, ◌-◌, ◌*◌, ◌<◌, ◌≤◌, nat_le, nat_lt, Bool, true, false, cond, List, length, get_or, take, arith}
use Rattle.std.specs.List.{count_by}
use Rattle.std.specs.List.Sorted.{IsNonDecreasingBy, IsPermutation}
use Rattle.std.proofs.lemmas.Bool.Decides.{nat_tests}
use Rattle.std.proofs.lemmas.List.{length-take-le, take_all}
use Rattle.std.proofs.lemmas.List.Sums.{count_by-le-length, count_by_more_no, count_by_more_yes, sum_by-take-le}
use Rattle.std.proofs.lemmas.List.Sorted.{length_permutation, sum_by-IsPermutation}
use Rattle.gs_tallies.specs.declared.spread.Percent.TheVariants.{Half, Ninety, NinetyNine, All}
use Rattle.gs_tallies.specs.declared.spread.Spread.{Spread}
use Rattle.gs_tallies.specs.Spreads.{IsPercentile, IsSpread, percent_of}

-- the first ones pass
low_pass : (p : ℕ → Bool) (xs : List ℕ) (n k : ℕ) → n ≤ length xs → ((i : ℕ) → i < n → p (get_or xs i 0) ≡ true) → k ≤ n → count_by p (take k xs) ≡ k
low_pass p xs n zero len all le = refl
low_pass p xs n (suc k) len all le =
    let e : suc k ≡ k + 1 = omega arith in
    rw e (count_by_more_yes p xs k 0 (omega arith) (all k (omega arith)) ∙ ap (λ m. m + 1) (low_pass p xs n k len all (omega arith)))

at_least : (p : ℕ → Bool) (xs : List ℕ) (n : ℕ) → n ≤ length xs → ((i : ℕ) → i < n → p (get_or xs i 0) ≡ true) → n ≤ count_by p xs
at_least p xs n len all = omega (arith, low_pass p xs n n len all (omega arith), sum_by-take-le (λ (x : ℕ). cond (p x) 1 0) xs n)

-- those behind them fail
high_fail : (p : ℕ → Bool) (xs : List ℕ) (n k : ℕ) → n + k ≤ length xs → ((i : ℕ) → n ≤ i → i < length xs → p (get_or xs i 0) ≡ false) → count_by p (take (n + k) xs) ≡ count_by p (take n xs)
high_fail p xs n zero len none = let e : n + 0 ≡ n = omega arith in rw e refl
high_fail p xs n (suc k) len none =
    let e : n + suc k ≡ (n + k) + 1 = omega arith in
    rw e (count_by_more_no p xs (n + k) 0 (omega arith) (none (n + k) (omega arith) (omega arith)) ∙ high_fail p xs n k (omega arith) none)

at_most : (p : ℕ → Bool) (xs : List ℕ) (n : ℕ) → n ≤ length xs → ((i : ℕ) → n ≤ i → i < length xs → p (get_or xs i 0) ≡ false) → count_by p xs ≤ n
at_most p xs n len none =
    let whole : count_by p xs ≡ count_by p (take n xs) = ap (count_by p) (sym (take_all (length xs) xs (omega arith))) ∙ (ap (λ m. count_by p (take m xs)) (let e : length xs ≡ n + (length xs - n) = omega arith in e) ∙ high_fail p xs n (length xs - n) (omega arith) none) in
    omega (arith, whole, count_by-le-length p (take n xs), length-take-le n xs len)

pub ranked : (percent : ℕ) (xs : List ℕ) (rank : ℕ) → IsNonDecreasingBy (λ (x : ℕ). x) xs → 0 < rank → rank ≤ length xs → percent * length xs ≤ 100 * rank → 100 * rank < percent * length xs + 100 → IsPercentile percent xs (get_or xs (rank - 1) 0)
ranked percent xs rank up some within enough least =
    let v : ℕ = get_or xs (rank - 1) 0 in
    let below : (i : ℕ) → i < rank → nat_le (get_or xs i 0) v ≡ true = λ i lt. (let le : get_or xs i 0 ≤ get_or xs (rank - 1) 0 = up i (rank - 1) 0 (omega arith) (omega arith) in grind (arith, nat_tests, le)) in
    let above : (i : ℕ) → rank - 1 ≤ i → i < length xs → nat_lt (get_or xs i 0) v ≡ false = λ i le lt. (let ge : get_or xs (rank - 1) 0 ≤ get_or xs i 0 = up (rank - 1) i 0 le lt in grind (arith, nat_tests, ge)) in
    let many : rank ≤ count_by (λ (x : ℕ). nat_le x v) xs = at_least (λ (x : ℕ). nat_le x v) xs rank within below in
    let few : count_by (λ (x : ℕ). nat_lt x v) xs ≤ rank - 1 = at_most (λ (x : ℕ). nat_lt x v) xs (rank - 1) (omega arith) above in
    record { enough = omega (arith, many, enough); least = omega (arith, few, least, some) }

-- and so of the same numbers in another order
pub reordered : (percent : ℕ) (xs ys : List ℕ) (v : ℕ) → IsPermutation xs ys → IsPercentile percent ys v → IsPercentile percent xs v
reordered percent xs ys v moved is =
    let len : length ys ≡ length xs = length_permutation xs ys moved in
    let many : count_by (λ (x : ℕ). nat_le x v) ys ≡ count_by (λ (x : ℕ). nat_le x v) xs = sum_by-IsPermutation (λ (x : ℕ). cond (nat_le x v) 1 0) xs ys moved in
    let few : count_by (λ (x : ℕ). nat_lt x v) ys ≡ count_by (λ (x : ℕ). nat_lt x v) xs = sum_by-IsPermutation (λ (x : ℕ). cond (nat_lt x v) 1 0) xs ys moved in
    record {
      enough = subst (λ (n : ℕ). percent * n ≤ 100 * count_by (λ (x : ℕ). nat_le x v) xs) len (subst (λ (m : ℕ). percent * length ys ≤ 100 * m) many is.enough);
      least = subst (λ (n : ℕ). 100 * count_by (λ (x : ℕ). nat_lt x v) xs < percent * n) len (subst (λ (m : ℕ). 100 * m < percent * length ys) few is.least);
    }

pub spread_reordered : (xs ys : List ℕ) (s : Spread) → IsPermutation xs ys → IsSpread ys s → IsSpread xs s
spread_reordered xs ys s moved is =
    record {
      half = reordered (percent_of Half) xs ys s.half moved is.half;
      ninety = reordered (percent_of Ninety) xs ys s.ninety moved is.ninety;
      ninety_nine = reordered (percent_of NinetyNine) xs ys s.ninety_nine moved is.ninety_nine;
      all = reordered (percent_of All) xs ys s.all moved is.all;
    }
