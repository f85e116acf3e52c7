-- The bytes of a number that was read from bytes are those bytes.
use Rattle.std.proofs.Common.{◌≡◌, ℕ, zero, suc, ◌+◌, ◌/◌, ◌%◌, ◌^◌, ◌<◌, ◌≤◌, List, [], ◌∷◌, ◌++◌, length, take, drop, get_or, refl, ap, sym, ◌∙◌, arith, inl, inr}
use Rattle.std.specs.Int.{byte_at, bytes_low_first}
use Rattle.std.proofs.lemmas.Bool.{cases_lt}
use Rattle.std.proofs.lemmas.List.{drop-drop, get_or-drop, get_or-take, get_or_past, length-drop, length-take, take-append-drop}
use Rattle.std.proofs.Math.Nat.{div-div-eq-div-mul, pow-suc}
use Rattle.byteorder.specs.Endian.{little_bytes, little_from, little_number}
use Rattle.byteorder.specs.Numbers.{little_from-cons, little_from-take}
use Rattle.gs_layout.specs.Reading.{number_at}

abbrev pub IsBytes : List ℕ → Type 0
IsBytes xs = (i : ℕ) → get_or xs i 0 < 256

pub IsBytes-drop : (n : ℕ) (xs : List ℕ) → IsBytes xs → IsBytes (drop n xs)
IsBytes-drop n xs h i =
    let e = get_or-drop n xs i 0 in
    omega (arith, h (n + i), e)

pub IsBytes-take : (n : ℕ) (xs : List ℕ) → IsBytes xs → IsBytes (take n xs)
IsBytes-take n xs h i =
    elim (cases_lt i n) [
      | inl lt ↦ rw (get_or-take n xs i 0 lt) (h i)
      | inr le ↦ rw (get_or_past (take n xs) i 0 (omega (arith, length-take n xs))) (omega arith)
    ]

byte_here : (j x : ℕ) → byte_at j x ≡ x / 256 ^ j % 256
byte_here zero x = omega arith
byte_here (suc j) x = refl

-- the bytes from the j-th on of a number that from there on is the one in xs
bytes_again : (j x : ℕ) (xs : List ℕ) → IsBytes xs → little_from 0 (length xs) xs ≡ x / 256 ^ j → bytes_low_first j (length xs) x ≡ xs
bytes_again j x [] fits e = refl
bytes_again j x (a ∷ ys) fits e =
    let small : a < 256 = fits 0 in
    let behind : little_from 1 (length ys) (a ∷ ys) ≡ little_from 0 (length ys) ys = little_from-cons 0 (length ys) a ys in
    let up : x / 256 ^ suc j ≡ x / 256 ^ j / 256 = ap (λ (p : ℕ). x / p) (pow-suc 256 j) ∙ sym (div-div-eq-div-mul x (256 ^ j) 256) in
    let here : byte_at j x ≡ a = omega (arith, byte_here j x, e, behind, small) in
    let next : little_from 0 (length ys) ys ≡ x / 256 ^ suc j = omega (arith, e, behind, small, up) in
    λ i. here i ∷ bytes_again (suc j) x ys (λ k. fits (suc k)) next i

back : (n : ℕ) (xs : List ℕ) → n ≤ length xs → IsBytes xs → little_bytes n (little_number n xs) ++ drop n xs ≡ xs
back n xs long fits =
    let count : length (take n xs) ≡ n = omega (arith, length-take n xs, long) in
    let same : little_from 0 (length (take n xs)) (take n xs) ≡ little_number n xs / 256 ^ 0 =
    ap (λ (k : ℕ). little_from 0 k (take n xs)) count ∙ little_from-take 0 n n xs (omega arith) ∙ omega arith in
    let front : little_bytes n (little_number n xs) ≡ take n xs = ap (λ (k : ℕ). bytes_low_first 0 k (little_number n xs)) (sym count) ∙ bytes_again 0 (little_number n xs) (take n xs) (IsBytes-take n xs fits) same in
    ap (λ (ys : List ℕ). ys ++ drop n xs) front ∙ take-append-drop n xs

-- the bytes of a number that was read at a place stand there
pub at_place : (w p : ℕ) (xs : List ℕ) → p + w ≤ length xs → IsBytes xs → little_bytes w (number_at p w xs) ++ drop (p + w) xs ≡ drop p xs
at_place w p xs long fits =
    ap (λ (ys : List ℕ). little_bytes w (number_at p w xs) ++ ys) (sym (drop-drop w p xs)) ∙ back w (drop p xs) (omega (arith, length-drop p xs)) (IsBytes-drop p xs fits)
