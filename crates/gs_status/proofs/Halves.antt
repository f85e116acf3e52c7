-- A mask as two words: the CPUs of the low one, and behind them those of the high one.
use Rattle.std.proofs.Common.{◌≡◌, ◌≢◌, ℕ, ◌+◌, ◌-◌, ◌*◌, ◌^◌, ◌/◌, ◌%◌, ◌<◌, ◌≤◌, ⊎_elim, true, false, ◌&&◌, None, Some, ap, ◌∙◌, sym, arith, min}
use Rattle.std.specs.Prelude.{bit_and}
use Rattle.std.specs.Int.{bit_at}
use Rattle.std.proofs.lemmas.Bool.{cases_lt}
use Rattle.std.proofs.lemmas.Bool.Decides.{nat_tests}
use Rattle.std.proofs.lemmas.Nat.{and_mask, div-mul-add, mod-mul-add}
use Rattle.std.proofs.lemmas.Nat.Bits.{bit_at-lt, bit_at_and, bit_at_ones}
use Rattle.gs_status.specs.declared.bit_word.TheConstants.{WORD_BITS}
use Rattle.gs_status.specs.declared.mask.TheConstants.{MOST_CPUS}
use Rattle.gs_status.specs.Masks.{has, has_none, least}
use Rattle.gs_status.proofs.Least.{least_before, least_found, least_none, least_passes}
use Rattle.gs_status.proofs.Masks.{has_same, has_shifted, is_zero, nobody}

-- the bits of both words, the high one's behind those of the low one
abbrev pub joined : ℕ → ℕ → ℕ
joined high low = high * 2 ^ WORD_BITS + low

-- a number's two halves put together
pub halves_of : (n : ℕ) → n < 2 ^ MOST_CPUS → joined (n / 2 ^ WORD_BITS % 2 ^ WORD_BITS) (n % 2 ^ WORD_BITS) ≡ n
halves_of n fits = omega arith

low_bit : (high low c : ℕ) → low < 2 ^ WORD_BITS → c < WORD_BITS → bit_at (joined high low) c ≡ bit_at low c
low_bit high low c fits below =
    let ones : bit_at (2 ^ WORD_BITS - 1) c ≡ 1 = bit_at_ones WORD_BITS c below in
    let both : bit_at (bit_and (joined high low) (2 ^ WORD_BITS - 1)) c ≡ min (bit_at (joined high low) c) (bit_at (2 ^ WORD_BITS - 1) c) =
    bit_at_and (joined high low) (2 ^ WORD_BITS - 1) c in
    let cut : bit_at (bit_and (joined high low) (2 ^ WORD_BITS - 1)) c ≡ bit_at low c =
    ap (λ k. bit_at k c) (and_mask (joined high low) WORD_BITS ∙ mod-mul-add high (2 ^ WORD_BITS) low fits) in
    let bit : bit_at (joined high low) c < 2 = bit_at-lt (joined high low) c in
    omega (arith, ones, both, cut, bit)

-- a CPU below 64 is in the mask if it is in the low word
pub in_low : (high low c : ℕ) → low < 2 ^ WORD_BITS → c < WORD_BITS → has (joined high low) c ≡ has low c
in_low high low c fits below = has_same (joined high low) low c (low_bit high low c fits below)

-- one from 64 on if it is in the high word
pub in_high : (high low c : ℕ) → low < 2 ^ WORD_BITS → WORD_BITS ≤ c → has (joined high low) c ≡ has high (c - WORD_BITS)
in_high high low c fits past =
    let place : WORD_BITS + (c - WORD_BITS) ≡ c = omega arith in
    ap (has (joined high low)) (sym place)
    ∙ (sym (has_shifted (joined high low) WORD_BITS (c - WORD_BITS)) ∙ ap (λ k. has k (c - WORD_BITS)) (div-mul-add high (2 ^ WORD_BITS) low fits))

-- no other CPU is in or out if one changes in the low word
pub low_changed : (high low low' cpu : ℕ) → low < 2 ^ WORD_BITS → low' < 2 ^ WORD_BITS → ((c : ℕ) → c ≢ cpu → has low' c ≡ has low c)
    → (c : ℕ) → c ≢ cpu → has (joined high low') c ≡ has (joined high low) c
low_changed high low low' cpu fits fits' kept c other =
    ⊎_elim
    (λ below. in_low high low' c fits' below ∙ (kept c other ∙ sym (in_low high low c fits below)))
    (λ past. in_high high low' c fits' past ∙ sym (in_high high low c fits past))
    (cases_lt c WORD_BITS)

-- nor if one changes in the high word
pub high_changed : (high high' low cpu : ℕ) → low < 2 ^ WORD_BITS → WORD_BITS ≤ cpu → ((n : ℕ) → n ≢ cpu - WORD_BITS → has high' n ≡ has high n)
    → (c : ℕ) → c ≢ cpu → has (joined high' low) c ≡ has (joined high low) c
high_changed high high' low cpu fits far kept c other =
    ⊎_elim
    (λ below. in_low high' low c fits below ∙ sym (in_low high low c fits below))
    (λ past. in_high high' low c fits past ∙ (kept (c - WORD_BITS) (λ e. other (omega (arith, e, past, far))) ∙ sym (in_high high low c fits past)))
    (cases_lt c WORD_BITS)

-- a CPU is in both masks if it is in both words of its half
pub in_both : (high low high' low' high'' low'' : ℕ) → low < 2 ^ WORD_BITS → low' < 2 ^ WORD_BITS → low'' < 2 ^ WORD_BITS
    → ((n : ℕ) → has high'' n ≡ (has high n && has high' n)) → ((n : ℕ) → has low'' n ≡ (has low n && has low' n))
    → (c : ℕ) → has (joined high'' low'') c ≡ (has (joined high low) c && has (joined high' low') c)
in_both high low high' low' high'' low'' fits fits' fits'' highs lows c =
    ⊎_elim
    (λ below. in_low high'' low'' c fits'' below ∙ (lows c ∙ (λ i. sym (in_low high low c fits below) i && sym (in_low high' low' c fits' below) i)))
    (λ past. in_high high'' low'' c fits'' past ∙ (highs (c - WORD_BITS) ∙ (λ i. sym (in_high high low c fits past) i && sym (in_high high' low' c fits' past) i)))
    (cases_lt c WORD_BITS)

-- a mask has no CPU if neither word has
pub empty_halves : (high low : ℕ) → (has_none low && has_none high) ≡ has_none (joined high low)
empty_halves high low = grind (arith, nat_tests)

-- the least CPU is that of the low word, if it has one
pub least_low : (high low c : ℕ) → low < 2 ^ WORD_BITS → Some c ≡ least (has low) WORD_BITS → c < WORD_BITS → Some c ≡ least (has (joined high low)) MOST_CPUS
least_low high low c fits first below =
    sym (least_found (has (joined high low)) MOST_CPUS c (omega (arith, below))
    (in_low high low c fits below ∙ least_passes (has low) WORD_BITS c (sym first))
    (λ k lt. in_low high low k fits (omega (arith, lt, below)) ∙ least_before (has low) WORD_BITS c (sym first) k lt))

none_in_low : (high low c : ℕ) → low < 2 ^ WORD_BITS → has_none low ≡ true → c < WORD_BITS → has (joined high low) c ≡ false
none_in_low high low c fits none below = in_low high low c fits below ∙ (ap (λ k. has k c) (is_zero low none) ∙ nobody c)

-- and else that of the high word
pub least_high : (high low c : ℕ) → low < 2 ^ WORD_BITS → has_none low ≡ true → Some c ≡ least (has high) WORD_BITS → c < WORD_BITS
    → Some (c + WORD_BITS) ≡ least (has (joined high low)) MOST_CPUS
least_high high low c fits none first below =
    let found : least (has high) WORD_BITS ≡ Some c = sym first in
    let back : c + WORD_BITS - WORD_BITS ≡ c = omega arith in
    sym (least_found (has (joined high low)) MOST_CPUS (c + WORD_BITS) (omega (arith, below))
    (in_high high low (c + WORD_BITS) fits (omega arith) ∙ (ap (has high) back ∙ least_passes (has high) WORD_BITS c found))
    (λ k lt.
    ⊎_elim
    (λ under. none_in_low high low k fits none under)
    (λ past. in_high high low k fits past ∙ least_before (has high) WORD_BITS c found (k - WORD_BITS) (omega (arith, lt, past)))
    (cases_lt k WORD_BITS)))

-- if neither word has a CPU there is none
pub least_of_neither : (high low : ℕ) → has_none low ≡ true → has_none high ≡ true → None ≡ least (has (joined high low)) MOST_CPUS
least_of_neither high low none none' =
    let e : joined high low ≡ 0 = omega (arith, is_zero low none, is_zero high none') in
    sym (least_none (has (joined high low)) MOST_CPUS (λ c l. ap (λ k. has k c) e ∙ nobody c))
