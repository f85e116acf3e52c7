-- Bytes of a block that were touched, as bytes of the whole block.
use Rattle.std.proofs.Common.{◌≡◌, ℕ, ◌+◌, ◌-◌, ◌%◌, ◌<◌, ◌≤◌, ⊎_elim, List, [], ◌∷◌, ◌++◌, length, take, drop, replicate, refl, ap, sym, ◌∙◌, append_assoc, arith, length-append, length-drop}
use Rattle.std.specs.Prelude.{max, min}
use Rattle.std.proofs.Math.Nat.{mod-eq_of_lt, mod-le}
use Rattle.std.proofs.lemmas.Bool.{cases_lt}
use Rattle.std.proofs.lemmas.List.{drop-append-le, length-replicate, replicate-append-replicate, take-append-drop, take-append-le, take_all}
use Rattle.byteorder.specs.Endian.{little_number}
use Rattle.gs_layout.specs.Reading.{number_at}
use Rattle.gs_ring.specs.Memory.{filled_up}

-- zeros that are touched are zeros still
more_by : (t : List ℕ) (k j n : ℕ) → k + j ≡ n → (t ++ replicate k 0) ++ replicate j 0 ≡ t ++ replicate n 0
more_by t k j n sum = append_assoc t (replicate k 0) (replicate j 0) ∙ ap (λ l. t ++ l) (replicate-append-replicate k j 0 ∙ ap (λ i. replicate i 0) sum)

filled_up-more : (t : List ℕ) (k size : ℕ) → length t + k ≤ size → filled_up (t ++ replicate k 0) size ≡ filled_up t size
filled_up-more t k size fits =
    more_by t k (size - length (t ++ replicate k 0)) (size - length t) (omega (arith, fits, length-append t (replicate k 0), length-replicate {A = ℕ} k 0))

-- zeros that are touched behind the others
pub more_touched : (t new : List ℕ) (n len size : ℕ) → len ≡ length t → len ≤ n → n ≤ size → new ≡ take n t ++ replicate (n - len) 0 → filled_up new size ≡ filled_up t size
more_touched t new n len size count more fits is =
    ap (λ (l : List ℕ). filled_up l size) (is ∙ ap (λ l. l ++ replicate (n - len) 0) (take_all n t (omega (arith, count, more)))) ∙ filled_up-more t (n - len) size (omega (arith, count, more, fits))

-- a number of two bytes at the front
number_front : (xs ys : List ℕ) → 2 ≤ length xs → little_number 2 (xs ++ ys) ≡ little_number 2 xs
number_front [] ys h = absurd (omega (arith, h))
number_front (a ∷ []) ys h = absurd (omega (arith, h))
number_front (a ∷ b ∷ xs) ys h = refl

number_of : (xs ys : List ℕ) (at : ℕ) → at + 2 ≤ length xs → number_at at 2 (xs ++ ys) ≡ number_at at 2 xs
number_of xs ys at h = ap (λ l. little_number 2 l) (drop-append-le at xs ys (omega arith)) ∙ number_front (drop at xs) ys (omega (arith, length-drop at xs))

-- a number that was touched
pub number_touched : (n : ℕ) (b : List ℕ) (at : ℕ) → at + 2 ≤ length (take n b) → number_at at 2 (take n b) ≡ number_at at 2 b
number_touched n b at h = sym (number_of (take n b) (drop n b) at h) ∙ ap (λ l. number_at at 2 l) (take-append-drop n b)

-- and one behind a place
pub behind_touched : (n : ℕ) (b : List ℕ) (i at : ℕ) → i + (at + 2) ≤ length (take n b) → number_at at 2 (drop i (take n b)) ≡ number_at at 2 (drop i b)
behind_touched n b i at h =
    let front = take n b in
    sym (number_of (drop i front) (drop n b) at (omega (arith, length-drop i front)))
    ∙ ap (λ l. number_at at 2 l) (sym (drop-append-le i front (drop n b) (omega arith)) ∙ ap (λ l. drop i l) (take-append-drop n b))

-- a row of bytes that were touched
pub row_touched : (n : ℕ) (b : List ℕ) (i k : ℕ) → i + k ≤ length (take n b) → take k (drop i (take n b)) ≡ take k (drop i b)
row_touched n b i k h =
    let front = take n b in
    sym (take-append-le k (drop i front) (drop n b) (omega (arith, length-drop i front)))
    ∙ ap (λ l. take k l) (sym (drop-append-le i front (drop n b) (omega arith)) ∙ ap (λ l. drop i l) (take-append-drop n b))

-- what was written is touched: of what waits first, all that lies before the end of the block
pub reached : (c r w t n : ℕ) → r + n ≤ w → r % c + n ≤ c → min w c ≤ t → r % c + n ≤ t
reached c r w t n low fits done =
    ⊎_elim
    (λ (lt : w < c). let e : r % c ≡ r = mod-eq_of_lt (omega (arith, low, lt)) in omega (arith, e, low, done, lt))
    (λ (le : c ≤ w). omega (arith, le, fits, done))
    (cases_lt w c)

-- and all of the block, if something was written round its end
pub all_reached : (c r w t : ℕ) → 0 < c → r + (c - r % c) ≤ w → min w c ≤ t → c ≤ t
all_reached c r w t pos low done =
    ⊎_elim
    (λ (lt : w < c). let e : r % c ≡ r = mod-eq_of_lt (omega (arith, low, lt)) in absurd (omega (arith, e, low, lt)))
    (λ (le : c ≤ w). omega (arith, le, done))
    (cases_lt w c)

-- so it is after more was written
pub reaches : (c w t t' n : ℕ) → 0 < c → min w c ≤ t → t ≤ t' → min (w % c + n) c ≤ t' → min (w + n) c ≤ t'
reaches c w t t' n pos done grows new_ =
    ⊎_elim
    (λ (lt : w < c). let e : w % c ≡ w = mod-eq_of_lt lt in omega (arith, e, new_))
    (λ (le : c ≤ w). omega (arith, le, done, grows))
    (cases_lt w c)

-- and little more is touched
pub stays_few : (c w t t' n step : ℕ) → t ≤ w + step → t' ≤ max t (w % c + n + step) → t' ≤ w + n + step
stays_few c w t t' n step few more = omega (arith, mod-le w c, few, more)
