-- Counts of which some are one less than their digits say.
use Rattle.std.proofs.Common.{◌≡◌, ℕ, zero, suc, ◌+◌, ◌-◌, ◌*◌, ◌%◌, ◌^◌, ◌<◌, ◌≤◌, ◌==◌, List, [], ◌∷◌, pow-suc, refl, ap, sym, ◌∙◌, true, max, min, arith, length, nat_lt}
use Rattle.std.specs.Prelude.{bit_and, bit_or, bit_xor}
use Rattle.std.specs.Int.{bit_at}
use Rattle.std.proofs.lemmas.Bool.Decides.{nat_tests}
use Rattle.std.proofs.lemmas.Nat.Bits.{bit_at-lt, bit_at_and, bit_at_or, bit_at_xor}
use Rattle.gs_status.specs.Masks.{has}
use Rattle.gs_status.proofs.Laws.{has_by_bit}
use Rattle.gs_usage.specs.Counting.{counted}

-- there is no count for which the digits have no room
pub counted_less : (ws : List ℕ) (i : ℕ) → counted ws i < 2 ^ length ws
counted_less [] i = omega arith
counted_less (w ∷ ws) i = let rest = counted_less ws i in let lt = bit_at-lt w i in omega (arith, rest, lt, pow-suc 2 (length ws))

-- what is added to the digits, and what is owed then: one that is owed comes back first
back : (s o : ℕ) → s < 2 → o < 2 → (s + min s o) % 2 + o ≡ s + (o + min s o) % 2
back zero zero p q = refl
back zero (suc zero) p q = refl
back (suc zero) zero p q = refl
back (suc zero) (suc zero) p q = refl
back (suc (suc s)) o p q = absurd (omega arith)
back s (suc (suc o)) p q = absurd (omega arith)

-- nothing is added where one is still owed
apart : (s o : ℕ) → s < 2 → o < 2 → min ((s + min s o) % 2) ((o + min s o) % 2) ≡ 0
apart zero zero p q = refl
apart zero (suc zero) p q = refl
apart (suc zero) zero p q = refl
apart (suc zero) (suc zero) p q = refl
apart (suc (suc s)) o p q = absurd (omega arith)
apart s (suc (suc o)) p q = absurd (omega arith)

more : (s o i : ℕ) → bit_at (bit_xor s (bit_and s o)) i ≡ (bit_at s i + min (bit_at s i) (bit_at o i)) % 2
more s o i = bit_at_xor s (bit_and s o) i ∙ ap (λ (k : ℕ). (bit_at s i + k) % 2) (bit_at_and s o i)

left : (s o i : ℕ) → bit_at (bit_xor o (bit_and s o)) i ≡ (bit_at o i + min (bit_at s i) (bit_at o i)) % 2
left s o i = bit_at_xor o (bit_and s o) i ∙ ap (λ (k : ℕ). (bit_at o i + k) % 2) (bit_at_and s o i)

-- the same by the sets
pub both_back : (s o i : ℕ) → bit_at (bit_xor s (bit_and s o)) i + bit_at o i ≡ bit_at s i + bit_at (bit_xor o (bit_and s o)) i
both_back s o i = ap (λ (k : ℕ). k + bit_at o i) (more s o i) ∙ (back (bit_at s i) (bit_at o i) (bit_at-lt s i) (bit_at-lt o i) ∙ ap (λ (k : ℕ). bit_at s i + k) (sym (left s o i)))

pub never_both : (s o i : ℕ) → min (bit_at (bit_xor s (bit_and s o)) i) (bit_at (bit_xor o (bit_and s o)) i) ≡ 0
never_both s o i = ap (λ (k : ℕ). min k (bit_at (bit_xor o (bit_and s o)) i)) (more s o i) ∙ (ap (min ((bit_at s i + min (bit_at s i) (bit_at o i)) % 2)) (left s o i) ∙ apart (bit_at s i) (bit_at o i) (bit_at-lt s i) (bit_at-lt o i))

-- there is room for what is added to the digits
pub room_added : (s o i c n : ℕ) → bit_at o i ≤ c → c < n → c - bit_at o i + bit_at s i < n → c + bit_at (bit_xor s (bit_and s o)) i < n
room_added s o i c n owed less lt = let e = both_back s o i in let z = never_both s o i in let p = bit_at-lt (bit_xor s (bit_and s o)) i in let q = bit_at-lt (bit_xor o (bit_and s o)) i in omega (arith, owed, less, lt, e, z, p, q)

pub owed_added : (s o i c d : ℕ) → bit_at o i ≤ c → d ≡ c + bit_at (bit_xor s (bit_and s o)) i → bit_at (bit_xor o (bit_and s o)) i ≤ d
owed_added s o i c d owed is = let e = both_back s o i in omega (arith, owed, is, e)

pub count_added : (s o i c d : ℕ) → bit_at o i ≤ c → d ≡ c + bit_at (bit_xor s (bit_and s o)) i → d - bit_at (bit_xor o (bit_and s o)) i ≡ c - bit_at o i + bit_at s i
count_added s o i c d owed is = let e = both_back s o i in omega (arith, owed, is, e)

-- what is taken from the digits
pub taken_again : (s o i c : ℕ) → bit_at o i ≤ c → bit_at (bit_and s o) i ≤ c
taken_again s o i c owed = let a = bit_at_and s o i in omega (arith, owed, a)

pub owed_taken : (s o i c d : ℕ) → bit_at o i ≤ c → bit_at s i ≤ c - bit_at o i → d + bit_at (bit_and s o) i ≡ c → bit_at (bit_or o s) i ≤ d
owed_taken s o i c d owed some is = let a = bit_at_and s o i in let b = bit_at_or o s i in omega (arith, owed, some, is, a, b)

pub count_taken : (s o i c d : ℕ) → bit_at o i ≤ c → bit_at s i ≤ c - bit_at o i → d + bit_at (bit_and s o) i ≡ c → d - bit_at (bit_or o s) i + bit_at s i ≡ c - bit_at o i
count_taken s o i c d owed some is = let a = bit_at_and s o i in let b = bit_at_or o s i in omega (arith, owed, some, is, a, b)

-- which counts are not 0
first : (w o r : ℕ) → w < 2 → o < 2 → o ≤ w + 2 * r → max ((w + min w o) % 2) (min 1 r) ≡ min 1 (w + 2 * r - o)
first zero zero r p q le = omega arith
first zero (suc zero) r p q le = omega (arith, le)
first (suc zero) zero r p q le = omega arith
first (suc zero) (suc zero) r p q le = omega arith
first (suc (suc w)) o r p q le = absurd (omega arith)
first w (suc (suc o)) r p q le = absurd (omega arith)

pub first_marked : (w o i r : ℕ) → bit_at o i ≤ bit_at w i + 2 * r → max (bit_at (bit_xor w (bit_and w o)) i) (min 1 r) ≡ min 1 (bit_at w i + 2 * r - bit_at o i)
first_marked w o i r le = ap (λ (k : ℕ). max k (min 1 r)) (more w o i) ∙ first (bit_at w i) (bit_at o i) r (bit_at-lt w i) (bit_at-lt o i) le

some : (n : ℕ) → (min 1 n == 1) ≡ nat_lt 0 n
some zero = refl
some (suc n) = let one : (min 1 (suc n) == 1) ≡ true = grind (arith, nat_tests) in let less : nat_lt 0 (suc n) ≡ true = grind (arith, nat_tests) in one ∙ sym less

pub has_some : (m i n : ℕ) → bit_at m i ≡ min 1 n → has m i ≡ nat_lt 0 n
has_some m i n is = has_by_bit m i ∙ (ap (λ (k : ℕ). k == 1) is ∙ some n)
