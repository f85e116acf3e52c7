-- The last digits of a number, with all their zeros.
use Rattle.std.proofs.Common.{◌≡◌, ◌<◌, ◌^◌, ℕ, zero, suc, ◌+◌, ◌-◌, ◌*◌, ◌/◌, ◌%◌, List, [], ◌∷◌, ◌++◌, drop, length, length-append, append_assoc, decimal, refl, ap, sym, ◌∙◌, arith}
use Rattle.std.proofs.Math.Nat.{mul-pos, mul_left_comm, pow-succ'}
use Rattle.std.proofs.lemmas.Fmt.{decimal_step_wide, decimal_digit}
use Rattle.std.proofs.lemmas.List.{append-nil, drop-drop}

-- so many of the last digits of a number
abbrev last_digits : ℕ → ℕ → List ℕ
last_digits zero n = []
last_digits (suc k) n = last_digits k (n / 10) ++ (48 + n % 10) ∷ []

length-last_digits : (k n : ℕ) → length (last_digits k n) ≡ k
length-last_digits zero n = refl
length-last_digits (suc k) n = length-append (last_digits k (n / 10)) ((48 + n % 10) ∷ []) ∙ omega (arith, length-last_digits k (n / 10))

-- the digits of a number are those of its front and then its last ones
decimal_parts : (k front last : ℕ) → 0 < front → last < 10 ^ k → front * 10 ^ k + last < 10 ^ 64 → decimal (front * 10 ^ k + last) ≡ decimal front ++ last_digits k last
decimal_parts zero front last some few fits = ap decimal (omega (arith, few)) ∙ sym (append-nil (decimal front))
decimal_parts (suc k) front last some few fits =
    let n = front * 10 ^ suc k + last in
    let power : 10 ^ suc k ≡ 10 * 10 ^ k = pow-succ' 10 k in
    let scaled : front * 10 ^ suc k ≡ 10 * (front * 10 ^ k) = ap (λ (p : ℕ). front * p) power ∙ mul_left_comm front 10 (10 ^ k) in
    let more : 0 < front * 10 ^ k = mul-pos some (omega (arith, few, power)) in
    let upper : n / 10 ≡ front * 10 ^ k + last / 10 = omega (arith, scaled) in
    let digit : n % 10 ≡ last % 10 = omega (arith, scaled) in
    let before : decimal (n / 10) ≡ decimal front ++ last_digits k (last / 10) = ap decimal upper ∙ decimal_parts k front (last / 10) some (omega (arith, few, power)) (omega (arith, fits, scaled)) in
    decimal_step_wide n (omega (arith, scaled, more)) fits
    ∙ (ap (λ (d : ℕ). decimal (n / 10) ++ (48 + d) ∷ []) digit
    ∙ (ap (λ (xs : List ℕ). xs ++ (48 + last % 10) ∷ []) before
    ∙ append_assoc (decimal front) (last_digits k (last / 10)) ((48 + last % 10) ∷ [])))

-- the last digits behind a one
decimal_one : (k last : ℕ) → last < 10 ^ k → 10 ^ k + last < 10 ^ 64 → decimal (10 ^ k + last) ≡ 49 ∷ last_digits k last
decimal_one k last few fits =
    let same : 10 ^ k + last ≡ 1 * 10 ^ k + last = omega arith in
    ap decimal same ∙ (decimal_parts k 1 last (omega arith) few (omega (arith, fits, same)) ∙ ap (λ (xs : List ℕ). xs ++ last_digits k last) (decimal_digit 1 (omega arith)))

-- the last digits that were written behind a one, which the front replaces
pub last_put : (k n front last start end : ℕ) (old new : List ℕ) → 0 < front → last < 10 ^ k → n ≡ front * 10 ^ k + last → n < 10 ^ 64 → 10 ^ k + last < 10 ^ 64
    → start + length (decimal (10 ^ k + last)) ≡ end → drop start new ≡ decimal (10 ^ k + last) ++ drop end old
    → decimal front ++ drop (end - k) new ≡ decimal n ++ drop end old
last_put k n front last start end old new some few is fits small ends written =
    let one : decimal (10 ^ k + last) ≡ 49 ∷ last_digits k last = decimal_one k last few small in
    let from : end - k ≡ start + 1 = omega (arith, ends, ap length one, length-last_digits k last) in
    let behind : drop (end - k) new ≡ last_digits k last ++ drop end old =
    ap (λ (m : ℕ). drop m new) from
    ∙ (sym (drop-drop 1 start new)
    ∙ ap (drop 1) (written ∙ ap (λ (xs : List ℕ). xs ++ drop end old) one)) in
    let whole : decimal n ≡ decimal front ++ last_digits k last = ap decimal is ∙ decimal_parts k front last some few (omega (arith, is, fits)) in
    ap (λ (xs : List ℕ). decimal front ++ xs) behind
    ∙ (sym (append_assoc (decimal front) (last_digits k last) (drop end old))
    ∙ ap (λ (xs : List ℕ). xs ++ drop end old) (sym whole))
