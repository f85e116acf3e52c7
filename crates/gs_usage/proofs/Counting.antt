-- Counts in binary, one digit at a time.
use Rattle.std.proofs.Common.{◌≡◌, ◌≢◌, ℕ, zero, suc, ◌+◌, ◌*◌, ◌%◌, ◌/◌, ◌^◌, ◌<◌, ◌≤◌, List, [], ◌∷◌, ◌++◌, pow-suc, refl, ap, sym, ◌∙◌, max, min, arith}
use Rattle.std.specs.Prelude.{bit_and, bit_or, bit_xor}
use Rattle.std.specs.Int.{bit_at}
use Rattle.std.proofs.lemmas.Nat.{mul-le}
use Rattle.std.proofs.Math.Nat.{mul_assoc}
use Rattle.std.proofs.lemmas.Nat.Bits.{bit_at-lt, bit_at-zero, bit_at_and, bit_at_or, bit_at_xor}
use Rattle.gs_usage.specs.Counting.{counted, totalled}
use Rattle.gs_usage.specs.declared.totals.Digit.{Digit}

-- the sum of three digits, and what is carried
three : (x y z : ℕ) → x < 2 → y < 2 → z < 2 → ((x + y) % 2 + z) % 2 + 2 * max (min x y) (min z ((x + y) % 2)) ≡ x + y + z
three zero zero zero p q r = refl
three zero zero (suc zero) p q r = refl
three zero (suc zero) zero p q r = refl
three zero (suc zero) (suc zero) p q r = refl
three (suc zero) zero zero p q r = refl
three (suc zero) zero (suc zero) p q r = refl
three (suc zero) (suc zero) zero p q r = refl
three (suc zero) (suc zero) (suc zero) p q r = refl
three (suc (suc x)) y z p q r = absurd (omega arith)
three x (suc (suc y)) z p q r = absurd (omega arith)
three x y (suc (suc z)) p q r = absurd (omega arith)

digits : (w d k i : ℕ) → bit_at (bit_xor (bit_xor w d) k) i + 2 * bit_at (bit_or (bit_and w d) (bit_and k (bit_xor w d))) i ≡ bit_at w i + bit_at d i + bit_at k i
digits w d k i =
    let sum : bit_at (bit_xor (bit_xor w d) k) i ≡ ((bit_at w i + bit_at d i) % 2 + bit_at k i) % 2 = bit_at_xor (bit_xor w d) k i ∙ ap (λ (m : ℕ). (m + bit_at k i) % 2) (bit_at_xor w d i) in
    let carry : bit_at (bit_or (bit_and w d) (bit_and k (bit_xor w d))) i ≡ max (min (bit_at w i) (bit_at d i)) (min (bit_at k i) ((bit_at w i + bit_at d i) % 2)) =
    bit_at_or (bit_and w d) (bit_and k (bit_xor w d)) i ∙ (ap (λ (m : ℕ). max m (bit_at (bit_and k (bit_xor w d)) i)) (bit_at_and w d i) ∙ ap (max (min (bit_at w i) (bit_at d i))) (bit_at_and k (bit_xor w d) i ∙ ap (min (bit_at k i)) (bit_at_xor w d i))) in
    ap (λ (m : ℕ). m + 2 * bit_at (bit_or (bit_and w d) (bit_and k (bit_xor w d))) i) sum
    ∙ (ap (λ (m : ℕ). ((bit_at w i + bit_at d i) % 2 + bit_at k i) % 2 + 2 * m) carry
    ∙ three (bit_at w i) (bit_at d i) (bit_at k i) (bit_at-lt w i) (bit_at-lt d i) (bit_at-lt k i))

halves : (t b : ℕ) → b < 2 → t * b ≡ t % 2 * b + 2 * (t / 2 * b)
halves t zero lt = omega arith
halves t (suc zero) lt = omega arith
halves t (suc (suc b)) lt = absurd (omega arith)

-- the digit of a number of times
pub odd_digit : (t s i : ℕ) → t % 2 ≡ 1 → bit_at s i ≡ t % 2 * bit_at s i
odd_digit t s i odd = let same : bit_at s i ≡ 1 * bit_at s i = omega arith in same ∙ ap (λ (m : ℕ). m * bit_at s i) (sym odd)

pub even_digit : (t s i : ℕ) → t % 2 ≢ 1 → bit_at 0 i ≡ t % 2 * bit_at s i
even_digit t s i even =
    let none : t % 2 ≡ 0 = omega (arith, even) in
    bit_at-zero i ∙ (let same : 0 ≡ 0 * bit_at s i = omega arith in same ∙ ap (λ (m : ℕ). m * bit_at s i) (sym none))

sums : (x y z s c a t u : ℕ) → s + 2 * c ≡ x + y + z → t ≡ y + 2 * u → x + 2 * a + t + z ≡ s + 2 * (a + u + c)
sums x y z s c a t u d h = omega (arith, d, h)

-- a digit more of a sum: a is the count by the other digits
pub added_digit : (w d k s t i a : ℕ) → bit_at d i ≡ t % 2 * bit_at s i
    → bit_at w i + 2 * a + t * bit_at s i + bit_at k i ≡ bit_at (bit_xor (bit_xor w d) k) i + 2 * (a + t / 2 * bit_at s i + bit_at (bit_or (bit_and w d) (bit_and k (bit_xor w d))) i)
added_digit w d k s t i a is =
    sums (bit_at w i) (bit_at d i) (bit_at k i) (bit_at (bit_xor (bit_xor w d) k) i) (bit_at (bit_or (bit_and w d) (bit_and k (bit_xor w d))) i) a (t * bit_at s i) (t / 2 * bit_at s i)
    (digits w d k i)
    (halves t (bit_at s i) (bit_at-lt s i) ∙ ap (λ (m : ℕ). m + 2 * (t / 2 * bit_at s i)) (sym is))

-- what is left of the sum has room for one digit less
pub room_left : (s a n : ℕ) → s + 2 * a < 2 ^ suc n → a < 2 ^ n
room_left s a n lt = omega (arith, lt, pow-suc 2 n)

-- a digit more of what is carried alone
half : (x y : ℕ) → x < 2 → y < 2 → (x + y) % 2 + 2 * min x y ≡ x + y
half zero zero p q = refl
half zero (suc zero) p q = refl
half (suc zero) zero p q = refl
half (suc zero) (suc zero) p q = refl
half (suc (suc x)) y p q = absurd (omega arith)
half x (suc (suc y)) p q = absurd (omega arith)

pub carried_digit : (w k i a : ℕ) → bit_at w i + 2 * a + bit_at k i ≡ bit_at (bit_xor w k) i + 2 * (a + bit_at (bit_and w k) i)
carried_digit w k i a =
    let sum = half (bit_at w i) (bit_at k i) (bit_at-lt w i) (bit_at-lt k i) in
    let digit : bit_at (bit_xor w k) i ≡ (bit_at w i + bit_at k i) % 2 = bit_at_xor w k i in
    let more : bit_at (bit_and w k) i ≡ min (bit_at w i) (bit_at k i) = bit_at_and w k i in
    rw (digit, more) (apart (bit_at w i) (bit_at k i) ((bit_at w i + bit_at k i) % 2) (min (bit_at w i) (bit_at k i)) a sum)
  where
    apart : (x y s m a : ℕ) → s + 2 * m ≡ x + y → x + 2 * a + y ≡ s + 2 * (a + m)
    apart x y s m a e = omega (arith, e)

-- a digit less
two : (x y : ℕ) → x < 2 → y < 2 → (x + y) % 2 + y ≡ x + 2 * min y ((x + y) % 2)
two zero zero p q = refl
two zero (suc zero) p q = refl
two (suc zero) zero p q = refl
two (suc zero) (suc zero) p q = refl
two (suc (suc x)) y p q = absurd (omega arith)
two x (suc (suc y)) p q = absurd (omega arith)

borrowed : (w s i : ℕ) → bit_at (bit_and s (bit_xor w s)) i ≡ min (bit_at s i) ((bit_at w i + bit_at s i) % 2)
borrowed w s i = bit_at_and s (bit_xor w s) i ∙ ap (min (bit_at s i)) (bit_at_xor w s i)

pub taken_digit : (w s i : ℕ) → bit_at (bit_xor w s) i + bit_at s i ≡ bit_at w i + 2 * bit_at (bit_and s (bit_xor w s)) i
taken_digit w s i = ap (λ (m : ℕ). m + bit_at s i) (bit_at_xor w s i) ∙ (two (bit_at w i) (bit_at s i) (bit_at-lt w i) (bit_at-lt s i) ∙ sym (ap (λ (m : ℕ). bit_at w i + 2 * m) (borrowed w s i)))

pub taken_rest : (w s i a : ℕ) → bit_at s i ≤ bit_at w i + 2 * a → bit_at (bit_and s (bit_xor w s)) i ≤ a
taken_rest w s i a le = omega (arith, le, taken_digit w s i, bit_at-lt (bit_xor w s) i, bit_at-lt (bit_and s (bit_xor w s)) i, bit_at-lt w i, bit_at-lt s i)

-- which counts are not 0
pub marked_digit : (w m i a : ℕ) → max (bit_at (bit_or m w) i) (min 1 a) ≡ max (bit_at m i) (min 1 (bit_at w i + 2 * a))
marked_digit w m i a = ap (λ (k : ℕ). max k (min 1 a)) (bit_at_or m w i) ∙ (let lt = bit_at-lt w i in let less = bit_at-lt m i in omega (arith, lt, less))

-- one more word
pub counted_more : (ws : List ℕ) (i : ℕ) → counted (ws ++ 0 ∷ []) i ≡ counted ws i
counted_more [] i = ap (λ (m : ℕ). m + 0) (bit_at-zero i)
counted_more (w ∷ ws) i = ap (λ (m : ℕ). bit_at w i + 2 * m) (counted_more ws i)

pub room_more : (most n left : ℕ) → most < 2 ^ n * (left + 1) → most < 2 ^ (n + 1) * (left / 2 + 1)
room_more most n left lt =
    let more : 2 ^ n * (left + 1) ≤ 2 ^ n * (2 * (left / 2 + 1)) = mul-le (2 ^ n) (left + 1) (2 ^ n) (2 * (left / 2 + 1)) (omega arith) (omega arith) in
    let next : n + 1 ≡ suc n = omega arith in
    let twice : 2 ^ n * (2 * (left / 2 + 1)) ≡ 2 ^ (n + 1) * (left / 2 + 1) = sym (mul_assoc (2 ^ n) 2 (left / 2 + 1)) ∙ ap (λ (m : ℕ). m * (left / 2 + 1)) (sym (ap (λ (m : ℕ). 2 ^ m) next ∙ pow-suc 2 n)) in
    omega (arith, lt, more, twice)

-- one more digit of totals
pub totalled_more : (ds : List Digit) (i : ℕ) → totalled (ds ++ record { word = 0; kept = 0 } ∷ []) i ≡ totalled ds i
totalled_more [] i = let none = bit_at-zero i in omega (arith, none)
totalled_more (d ∷ ds) i = ap (λ (m : ℕ). bit_at d.word i + bit_at d.kept i + 2 * m) (totalled_more ds i)

-- a set more of a digit that keeps another
pub joined_digit : (w k s i a : ℕ) → bit_at w i + bit_at k i + 2 * a + bit_at s i ≡ bit_at (bit_xor (bit_xor w k) s) i + bit_at 0 i + 2 * (a + bit_at (bit_or (bit_and w k) (bit_and s (bit_xor w k))) i)
joined_digit w k s i a = let sum = digits w k s i in let none = bit_at-zero i in omega (arith, sum, none)

-- so many more of one digit, whatever it keeps
pub summed_digit : (w d c k s t i a : ℕ) → bit_at d i ≡ t % 2 * bit_at s i
    → bit_at w i + bit_at k i + 2 * a + t * bit_at s i + bit_at c i ≡ bit_at (bit_xor (bit_xor w d) c) i + bit_at k i + 2 * (a + t / 2 * bit_at s i + bit_at (bit_or (bit_and w d) (bit_and c (bit_xor w d))) i)
summed_digit w d c k s t i a is = let sum = added_digit w d c s t i a is in beside (bit_at w i) (bit_at k i) a (t * bit_at s i) (bit_at c i) (bit_at (bit_xor (bit_xor w d) c) i) (a + t / 2 * bit_at s i + bit_at (bit_or (bit_and w d) (bit_and c (bit_xor w d))) i) sum
  where
    beside : (w k a t c x m : ℕ) → w + 2 * a + t + c ≡ x + 2 * m → w + k + 2 * a + t + c ≡ x + k + 2 * m
    beside w k a t c x m e = omega (arith, e)

-- what is left has room for one digit less, whatever is kept
pub room_kept : (s k a n : ℕ) → s + k + 2 * a < 2 ^ suc n → a < 2 ^ n
room_kept s k a n lt = omega (arith, lt, pow-suc 2 n)
