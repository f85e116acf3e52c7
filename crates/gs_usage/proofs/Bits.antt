-- Sets as bits: those in either, those in one and not in another, and one alone.
use Rattle.std.proofs.Common.{◌≡◌, ap, sym, refl, ◌∙◌, ℕ, zero, suc, ◌+◌, ◌^◌, ◌%◌, ◌<◌, ◌≤◌, ◌==◌, ◌&&◌, ◌||◌, ◌⊎◌, inl, inr, Bool, true, false, cond, ◌-◌, max, min, arith}
use Rattle.std.specs.Prelude.{bit_and, bit_or, bit_xor, not}
use Rattle.std.specs.Int.{bit_at}
use Rattle.std.proofs.lemmas.Bool.{cases_eq}
use Rattle.std.proofs.lemmas.Bool.Decides.{nat_tests}
use Rattle.std.proofs.lemmas.Nat.Bits.{bit_at-lt, bit_at-zero, bit_at-pow_other, bit_at-pow_same, bit_at_and, bit_at_ones, bit_at_or, bit_at_xor}
use Rattle.gs_status.specs.declared.mask.TheConstants.{MOST_CPUS}
use Rattle.gs_status.specs.Masks.{has}
use Rattle.gs_status.proofs.Laws.{has_by_bit, has_none_past, nobody}

or_bits : (x y : ℕ) → x < 2 → y < 2 → (max x y == 1) ≡ ((x == 1) || (y == 1))
or_bits zero zero p q = refl
or_bits zero (suc zero) p q = refl
or_bits (suc zero) zero p q = refl
or_bits (suc zero) (suc zero) p q = refl
or_bits (suc (suc x)) y p q = absurd (omega arith)
or_bits x (suc (suc y)) p q = absurd (omega arith)

minus_bits : (x y : ℕ) → x < 2 → y < 2 → ((x + min x y) % 2 == 1) ≡ ((x == 1) && not (y == 1))
minus_bits zero zero p q = refl
minus_bits zero (suc zero) p q = refl
minus_bits (suc zero) zero p q = refl
minus_bits (suc zero) (suc zero) p q = refl
minus_bits (suc (suc x)) y p q = absurd (omega arith)
minus_bits x (suc (suc y)) p q = absurd (omega arith)

pub has_either : (a b i : ℕ) → has (bit_or a b) i ≡ (has a i || has b i)
has_either a b i =
    has_by_bit (bit_or a b) i
    ∙ (ap (λ (k : ℕ). k == 1) (bit_at_or a b i)
    ∙ (or_bits (bit_at a i) (bit_at b i) (bit_at-lt a i) (bit_at-lt b i)
    ∙ sym (ap (λ (t : Bool). t || has b i) (has_by_bit a i) ∙ ap (λ (t : Bool). (bit_at a i == 1) || t) (has_by_bit b i))))

pub has_minus : (a b i : ℕ) → has (bit_xor a (bit_and a b)) i ≡ (has a i && not (has b i))
has_minus a b i =
    has_by_bit (bit_xor a (bit_and a b)) i
    ∙ (ap (λ (k : ℕ). k == 1) (bit_at_xor a (bit_and a b) i ∙ ap (λ (k : ℕ). (bit_at a i + k) % 2) (bit_at_and a b i))
    ∙ (minus_bits (bit_at a i) (bit_at b i) (bit_at-lt a i) (bit_at-lt b i)
    ∙ sym (ap (λ (t : Bool). t && not (has b i)) (has_by_bit a i) ∙ ap (λ (t : Bool). (bit_at a i == 1) && not t) (has_by_bit b i))))

pub has_one : (p i : ℕ) → has (2 ^ p) i ≡ (p == i)
has_one p i = has_by_bit (2 ^ p) i ∙ by_place (cases_eq i p)
  where
    by_place : (i ≡ p) ⊎ (i ≡ p → ⊥) → (bit_at (2 ^ p) i == 1) ≡ (p == i)
    by_place (inl same) =
        let test : (p == i) ≡ true = grind (arith, nat_tests) in
        ap (λ (k : ℕ). bit_at (2 ^ p) k == 1) same ∙ (ap (λ (k : ℕ). k == 1) (bit_at-pow_same p) ∙ sym test)
    by_place (inr ne) =
        let test : (p == i) ≡ false = grind (arith, nat_tests) in
        ap (λ (k : ℕ). k == 1) (bit_at-pow_other p i ne) ∙ sym test

pub in_all : (i : ℕ) → i < MOST_CPUS → has (2 ^ MOST_CPUS - 1) i ≡ true
in_all i lt = has_by_bit (2 ^ MOST_CPUS - 1) i ∙ ap (λ (k : ℕ). k == 1) (bit_at_ones MOST_CPUS i lt)

-- a bit is one if the place is in the set
bit_by : (k : ℕ) → k < 2 → k ≡ cond (k == 1) 1 0
bit_by zero lt = refl
bit_by (suc zero) lt = refl
bit_by (suc (suc k)) lt = absurd (omega arith)

pub bit_is : (m i : ℕ) → bit_at m i ≡ cond (has m i) 1 0
bit_is m i = bit_by (bit_at m i) (bit_at-lt m i) ∙ ap (λ (b : Bool). cond b 1 0) (sym (has_by_bit m i))

pub none_ticked : (m n i : ℕ) → n ≡ n + min (bit_at m i) (bit_at 0 i)
none_ticked m n i = let none = bit_at-zero i in omega (arith, none)

-- no CPU of a later block is in a mask
pub none_later : (m first i : ℕ) → m < 2 ^ MOST_CPUS → MOST_CPUS ≤ first → has 0 i ≡ has m (first + i)
none_later m first i small past = nobody i ∙ sym (has_none_past m (first + i) small (omega arith))
