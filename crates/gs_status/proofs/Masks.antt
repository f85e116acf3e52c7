-- A shift says which bits are left, and a bit that is set or cleared says which CPUs are in the mask.
use Rattle.std.proofs.Common.{◌≡◌, ◌≢◌, ℕ, ◌+◌, ◌*◌, ◌^◌, ◌/◌, ◌%◌, ◌<◌, ◌≤◌, ◌⊎◌, ⊎_elim, inl, inr, Bool, true, false, zero, suc, ◌&&◌, None, Some, ap, ◌∙◌, sym, subst, refl, arith, min, w64}
use Rattle.std.specs.Prelude.{nat_le, not, ◌==◌, bit_and, bit_or}
use Rattle.std.specs.Int.{bit_at, bit_not, trailing_zeros}
use Rattle.std.proofs.lemmas.Bool.{cases_lt}
use Rattle.std.proofs.lemmas.Bool.Decides.{nat_tests}
use Rattle.std.proofs.lemmas.Nat.{or_lt, pow_pos, pow-add}
use Rattle.std.proofs.lemmas.Nat.Bits.{shr_and_one, bit_at-zero, bit_at_above, bit_at_and, bit_at_set_same, bit_at_set_other, bit_at_clear_same, bit_at_clear_other, bit_at-lt, bit_at-trailing_zeros}
use Rattle.std.proofs.Math.Nat.{div-div-eq-div-mul, div-eq_of_lt, lt-div-mul-add, mod-lt}
use Rattle.std.proofs.Math.Pow.{pow_mono}
use Rattle.gs_status.specs.declared.bit_word.TheConstants.{WORD_BITS}
use Rattle.gs_status.specs.declared.mask.TheConstants.{MOST_CPUS}
use Rattle.gs_status.specs.Masks.{has, has_none, has_past, least}
use Rattle.gs_status.proofs.Least.{least_none, least_found}

shifted_by : (n b : ℕ) → 0 < b → (n < b) ⊎ (b ≤ n) → not (n / b == 0) ≡ nat_le b n
shifted_by n b pos (inl l) =
    let z : n / b ≡ 0 = div-eq_of_lt l in
    let le : nat_le b n ≡ false = grind (arith, nat_tests) in
    ap (λ k. not (k == 0)) z ∙ sym le
shifted_by n b pos (inr l) =
    let le : nat_le b n ≡ true = grind (arith, nat_tests) in
    by_zero (n / b == 0) refl ∙ sym le
  where
    by_zero : (t : Bool) → (n / b == 0) ≡ t → not (n / b == 0) ≡ true
    by_zero false e = ap not e
    by_zero true e =
        let z : n / b ≡ 0 = grind (arith, nat_tests) in
        let up : n < n / b * b + b = lt-div-mul-add pos in
        let up' : n < 0 * b + b = subst (λ k. n < k * b + b) z up in
        absurd (omega (arith, up', l))

pub shifted_out : (n c : ℕ) → not (n / 2 ^ c == 0) ≡ has_past n c
shifted_out n c = shifted_by n (2 ^ c) (pow_pos c) (cases_lt n (2 ^ c))

-- a number of so many bits is below each power from there on
below_past : (bits n c : ℕ) → n < 2 ^ bits → bits ≤ c → n < 2 ^ c
below_past bits n c small past =
    let p : 2 ^ bits ≤ 2 ^ c = pow_mono past in
    omega (arith, p, small)

pub past_all : (n c : ℕ) → n < 2 ^ MOST_CPUS → MOST_CPUS ≤ c → has_past n c ≡ false
past_all n c small past =
    let lt = below_past MOST_CPUS n c small past in
    grind (arith, nat_tests, lt)

-- a set of so many bits has nothing from there on
none_past : (bits n c : ℕ) → n < 2 ^ bits → bits ≤ c → has n c ≡ false
none_past bits n c small past = ap (λ k. bit_and k 1 == 1) (div-eq_of_lt (below_past bits n c small past))

pub none_past_word : (n c : ℕ) → n < 2 ^ WORD_BITS → WORD_BITS ≤ c → has n c ≡ false
none_past_word n c small past = none_past WORD_BITS n c small past

pub has_none_past : (n c : ℕ) → n < 2 ^ MOST_CPUS → MOST_CPUS ≤ c → has n c ≡ false
has_none_past n c small past = none_past MOST_CPUS n c small past

-- a shift moves each bit
pub has_shifted : (n b c : ℕ) → has (n / 2 ^ b) c ≡ has n (b + c)
has_shifted n b c = ap (λ k. bit_and k 1 == 1) (div-div-eq-div-mul n (2 ^ b) (2 ^ c) ∙ ap (λ k. n / k) (sym (pow-add 2 b c)))

-- a CPU is in a mask if its bit is one
pub has_by_bit : (n c : ℕ) → has n c ≡ (bit_at n c == 1)
has_by_bit n c = ap (λ (k : ℕ). k == 1) (shr_and_one n c)

-- two masks with the same bit
pub has_same : (n m c : ℕ) → bit_at n c ≡ bit_at m c → has n c ≡ has m c
has_same n m c e = has_by_bit n c ∙ (ap (λ (k : ℕ). k == 1) e ∙ sym (has_by_bit m c))

-- a mask that has no CPU is zero
pub is_zero : (m : ℕ) → has_none m ≡ true → m ≡ 0
is_zero m none = grind (arith, nat_tests)

pub nobody : (c : ℕ) → has 0 c ≡ false
nobody c = has_by_bit 0 c ∙ ap (λ (k : ℕ). k == 1) (bit_at-zero c)

-- a word with one bit more
abbrev pub with_bit : ℕ → ℕ → ℕ
with_bit n c = bit_or n (1 * 2 ^ c % 2 ^ WORD_BITS)

pub with_fits : (n c : ℕ) → n < 2 ^ WORD_BITS → with_bit n c < 2 ^ WORD_BITS
with_fits n c fits = or_lt WORD_BITS n (1 * 2 ^ c % 2 ^ WORD_BITS) fits (mod-lt (1 * 2 ^ c) (pow_pos WORD_BITS))

pub with_here : (n c : ℕ) → c < WORD_BITS → has (with_bit n c) c ≡ true
with_here n c within = has_by_bit (with_bit n c) c ∙ ap (λ (k : ℕ). k == 1) (bit_at_set_same w64 n c within)

pub with_others : (n c : ℕ) → c < WORD_BITS → (i : ℕ) → i ≢ c → has (with_bit n c) i ≡ has n i
with_others n c within i other = has_same (with_bit n c) n i (bit_at_set_other w64 n c within i other)

-- a word with one bit cleared
abbrev pub without_bit : ℕ → ℕ → ℕ
without_bit n c = bit_and n (bit_not w64 (1 * 2 ^ c % 2 ^ WORD_BITS))

pub without_here : (n c : ℕ) → c < WORD_BITS → has (without_bit n c) c ≡ false
without_here n c within = has_by_bit (without_bit n c) c ∙ ap (λ (k : ℕ). k == 1) (bit_at_clear_same w64 n c within)

-- a bit from the 64th on is zero before and after
pub without_others : (n c : ℕ) → n < 2 ^ WORD_BITS → c < WORD_BITS → (i : ℕ) → i ≢ c → has (without_bit n c) i ≡ has n i
without_others n c small within i other = has_same (without_bit n c) n i (
    ⊎_elim
    (λ below. bit_at_clear_other w64 n c within i below other)
    (λ past. omega (arith, bit_at_above n WORD_BITS i small past, bit_at_and n (bit_not w64 (1 * 2 ^ c % 2 ^ WORD_BITS)) i))
    (cases_lt i WORD_BITS))

-- both masks have a CPU if its bit is one in both
both_bits : (x y : ℕ) → x < 2 → y < 2 → (min x y == 1) ≡ ((x == 1) && (y == 1))
both_bits zero zero p q = refl
both_bits zero (suc zero) p q = refl
both_bits (suc zero) zero p q = refl
both_bits (suc zero) (suc zero) p q = refl
both_bits (suc (suc x)) y p q = absurd (omega arith)
both_bits x (suc (suc y)) p q = absurd (omega arith)

pub has_both : (n m c : ℕ) → has (bit_and n m) c ≡ (has n c && has m c)
has_both n m c =
    has_by_bit (bit_and n m) c
    ∙ (ap (λ (k : ℕ). k == 1) (bit_at_and n m c)
    ∙ (both_bits (bit_at n c) (bit_at m c) (bit_at-lt n c) (bit_at-lt m c)
    ∙ sym (ap (λ (b : Bool). b && has m c) (has_by_bit n c) ∙ ap (λ (b : Bool). (bit_at n c == 1) && b) (has_by_bit m c))))

-- the place of the lowest bit that is one is the least CPU
pub lowest_has : (n : ℕ) → 0 < n → n < 2 ^ WORD_BITS → has n (trailing_zeros w64 n) ≡ true
lowest_has n pos fits = has_by_bit n (trailing_zeros w64 n) ∙ ap (λ (k : ℕ). k == 1) (bit_at-trailing_zeros w64 n pos fits).1

pub lowest_within : (n : ℕ) → 0 < n → n < 2 ^ WORD_BITS → trailing_zeros w64 n < WORD_BITS
lowest_within n pos fits = (bit_at-trailing_zeros w64 n pos fits).0

pub least_of_none : (n : ℕ) → n ≡ 0 → None ≡ least (has n) WORD_BITS
least_of_none n none = sym (least_none (has n) WORD_BITS (λ c l. ap (λ (k : ℕ). has k c) none ∙ nobody c))

pub least_of_some : (n : ℕ) → 0 < n → n < 2 ^ WORD_BITS → Some (trailing_zeros w64 n) ≡ least (has n) WORD_BITS
least_of_some n pos fits =
    sym (least_found (has n) WORD_BITS (trailing_zeros w64 n) (lowest_within n pos fits) (lowest_has n pos fits) (λ c l. has_by_bit n c ∙ ap (λ (k : ℕ). k == 1) ((bit_at-trailing_zeros w64 n pos fits).2 c l)))
