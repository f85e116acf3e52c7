-- A number is told by its decimal digits, which have no space among them.
use Rattle.std.proofs.Common.{◌≡◌, ℕ, ◌+◌, ◌*◌, ◌/◌, ◌%◌, ◌^◌, ◌<◌, ◌≤◌, ◌==◌, nat_lt, zero, suc, Bool, true, false, cond, List, [], ◌∷◌, length, get_or, filter, decimal, refl, ap, sym, subst, ◌∙◌, arith}
use Rattle.std.specs.List.{All}
use Rattle.std.specs.Fmt.{digit_glyph, digits, digits_onto}
use Rattle.std.specs.Str.{all_ascii_digits}
use Rattle.std.specs.Char.{digit_value}
use Rattle.std.specs.Str.Parse.{digits_value, digits_value_after}
use Rattle.std.proofs.Math.Nat.{pow-suc}
use Rattle.std.proofs.lemmas.Bool.{and_parts, eqb-true}
use Rattle.std.proofs.lemmas.Bool.Decides.{nat_tests}
use Rattle.std.proofs.lemmas.Fmt.{decimal-digits_value, length-decimal-le}
use Rattle.std.proofs.lemmas.List.Splits.{slice_split_none}
use Rattle.std.proofs.lemmas.Str.{digit_value-digit_char}
use Rattle.std.proofs.lemmas.Str.Parse.{IsNumeralModel, numerals_by_value, tells_all_ascii_digits}
use Rattle.gs_script.specs.Words.{is_shortest, is_word, number, words_of}
use Rattle.gs_script.specs.Grammar.{is_number_in}

-- the last k digits of a number at most, in front of others
abbrev spelled : ℕ → ℕ → List ℕ → List ℕ
spelled k n acc = digits_onto k 10 false n acc

abbrev glyph : ℕ → ℕ
glyph n = digit_glyph false (n % 10)

spells : (n : ℕ) → spelled 64 n [] ≡ decimal n
unfolding digits
spells n = refl

-- none of them is a space
abbrev pub IsBlack : ℕ → Type 0
IsBlack x = (x == 32) ≡ false

glyph_black : (n : ℕ) → IsBlack (glyph n)
glyph_black n = by_digit (nat_lt (n % 10) 10) (n % 10)
  where
    by_digit : (b : Bool) (d : ℕ) → (cond b (48 + d) (87 + d) == 32) ≡ false
    by_digit true d = grind (arith, nat_tests)
    by_digit false d = grind (arith, nat_tests)

black_first : (x : ℕ) (xs : List ℕ) → IsBlack x → All IsBlack xs → All IsBlack (x ∷ xs)
black_first x xs one all zero d k = one
black_first x xs one all (suc i) d k = all i d (omega arith)

spelled_black : (k n : ℕ) (acc : List ℕ) → All IsBlack acc → All IsBlack (spelled k n acc)
spelled_black zero n acc h = h
spelled_black (suc k) n acc h = by_last (n / 10 == 0) (glyph n ∷ acc) (spelled k (n / 10) (glyph n ∷ acc)) (black_first (glyph n) acc (glyph_black n) h) (spelled_black k (n / 10) (glyph n ∷ acc) (black_first (glyph n) acc (glyph_black n) h))
  where
    by_last : (b : Bool) (xs ys : List ℕ) → All IsBlack xs → All IsBlack ys → All IsBlack (cond b xs ys)
    by_last true xs ys one more = one
    by_last false xs ys one more = more

pub decimal_black : (n : ℕ) → All IsBlack (decimal n)
decimal_black n = subst (All IsBlack) (spells n) (spelled_black 64 n [] (λ i d k. absurd (omega arith)))

-- a word without a space is the one word of its text
pub one_word : (w : List ℕ) → All IsBlack w → is_word w ≡ true → words_of w ≡ w ∷ []
one_word w black some = ap (filter is_word) (slice_split_none (λ b. b == 32) w black) ∙ ap (λ (b : Bool). cond b (w ∷ []) []) some

-- so few digits are those of a number below a power of ten
spelled_more : (k n : ℕ) (acc : List ℕ) → length acc ≤ length (spelled k n acc)
spelled_more zero n acc = omega arith
spelled_more (suc k) n acc = by_last (n / 10 == 0) (spelled k (n / 10) (glyph n ∷ acc)) (spelled_more k (n / 10) (glyph n ∷ acc))
  where
    by_last : (b : Bool) (ys : List ℕ) → length (glyph n ∷ acc) ≤ length ys → length acc ≤ length (cond b (glyph n ∷ acc) ys)
    by_last true ys more = omega arith
    by_last false ys more = omega arith

spelled_some : (k n : ℕ) → 1 ≤ length (spelled (suc k) n [])
spelled_some k n = by_last (n / 10 == 0) (spelled k (n / 10) (glyph n ∷ [])) (spelled_more k (n / 10) (glyph n ∷ []))
  where
    by_last : (b : Bool) (ys : List ℕ) → 1 ≤ length ys → 1 ≤ length (cond b (glyph n ∷ []) ys)
    by_last true ys more = omega arith
    by_last false ys more = more

pub decimal_word : (n : ℕ) → is_word (decimal n) ≡ true
decimal_word n = let more : 1 ≤ length (decimal n) = subst (λ (ds : List ℕ). 1 ≤ length ds) (spells n) (spelled_some 63 n) in grind (arith, nat_tests)

some_power : (m : ℕ) → 0 < 10 ^ m
some_power zero = omega arith
some_power (suc m) = omega (arith, some_power m, pow-suc 10 m)

few_spelled : (m k n : ℕ) (acc : List ℕ) → m < k → length (spelled k n acc) ≤ m + length acc → n < 10 ^ m
few_spelled m zero n acc below few = absurd (omega arith)
few_spelled zero (suc k) n acc below few = absurd (too_many (n / 10 == 0) (spelled k (n / 10) (glyph n ∷ acc)) (spelled_more k (n / 10) (glyph n ∷ acc)) few)
  where
    too_many : (b : Bool) (ys : List ℕ) → length (glyph n ∷ acc) ≤ length ys → length (cond b (glyph n ∷ acc) ys) ≤ 0 + length acc → ⊥
    too_many true ys more few = omega arith
    too_many false ys more few = omega arith
few_spelled (suc m) (suc k) n acc below few = by_last (n / 10 == 0) (spelled k (n / 10) (glyph n ∷ acc)) (few_spelled m k (n / 10) (glyph n ∷ acc) (omega arith)) refl few
  where
    by_last : (b : Bool) (ys : List ℕ) → (length ys ≤ m + length (glyph n ∷ acc) → n / 10 < 10 ^ m) → (n / 10 == 0) ≡ b → length (cond b (glyph n ∷ acc) ys) ≤ suc m + length acc → n < 10 ^ suc m
    by_last true ys rest e few = let none : n / 10 ≡ 0 = eqb-true (n / 10) 0 e in omega (arith, some_power m, pow-suc 10 m)
    by_last false ys rest e few = let fewer = rest (omega arith) in omega (arith, pow-suc 10 m)

-- and they write it
glyph_value : (n : ℕ) → digit_value (glyph n) ≡ n % 10
glyph_value n = digit_value-digit_char (n % 10) (omega arith)

spelled_value : (k n : ℕ) (acc : List ℕ) → n < 10 ^ k → digits_value_after 10 0 (spelled k n acc) ≡ digits_value_after 10 n acc
spelled_value zero n acc small = let none : 0 ≡ n = omega arith in ap (λ m. digits_value_after 10 m acc) none
spelled_value (suc k) n acc small = by_last (n / 10 == 0) refl (spelled_value k (n / 10) (glyph n ∷ acc) (omega (arith, pow-suc 10 k)))
  where
    value : (m : ℕ) → m ≡ n / 10 → digits_value_after 10 m (glyph n ∷ acc) ≡ digits_value_after 10 n acc
    value m e = let digit = glyph_value n in let whole : m * 10 + digit_value (glyph n) ≡ n = omega arith in ap (λ j. digits_value_after 10 j acc) whole

    by_last : (b : Bool) → (n / 10 == 0) ≡ b → digits_value_after 10 0 (spelled k (n / 10) (glyph n ∷ acc)) ≡ digits_value_after 10 (n / 10) (glyph n ∷ acc)
        → digits_value_after 10 0 (cond b (glyph n ∷ acc) (spelled k (n / 10) (glyph n ∷ acc))) ≡ digits_value_after 10 n acc
    by_last true e more = value 0 (sym (eqb-true (n / 10) 0 e))
    by_last false e more = more ∙ value (n / 10) refl

own : IsNumeralModel (λ ds. all_ascii_digits ds ≡ true) (digits_value 10)
own = numerals_by_value _ tells_all_ascii_digits

-- what is known of a number that is in its range
record Fits (most : ℕ) (ds : List ℕ) : Type 0 where
  some : 0 < length ds
  digits : all_ascii_digits ds ≡ true
  shortest : get_or ds 0 0 ≡ 48 → length ds ≡ 1
  high : number ds ≤ most

alone : (ds : List ℕ) → is_shortest ds ≡ true → get_or ds 0 0 ≡ 48 → is_word ds ≡ true → length ds ≡ 1
alone [] short zero_first some = absurd (cc)
alone (d ∷ []) short zero_first some = refl
alone (d ∷ e ∷ ds) short zero_first some = grind (arith, nat_tests)

fits : (low most : ℕ) (ds : List ℕ) → is_number_in low most ds ≡ true → Fits most ds
fits low most ds h =
    let a = and_parts _ _ h in
    let b = and_parts _ _ a.0 in
    let c = and_parts _ _ b.0 in
    let d = and_parts _ _ c.0 in
    record {
      some = let e = d.0 in grind (arith, nat_tests);
      digits = d.1;
      shortest = λ zero_first. alone ds c.1 zero_first d.0;
      high = let e = a.1 in grind (arith, nat_tests);
    }

-- digits in a range of at most 64 bits are those of the number that they were written for
pub same_number : (low most n : ℕ) → most < 2 ^ 64 → is_number_in low most (decimal n) ≡ true → number (decimal n) ≡ n
same_number low most n bits h =
    let f = fits low most (decimal n) h in
    let v = number (decimal n) in
    let again : decimal v ≡ decimal n = decimal-digits_value own (decimal n) f.digits f.some f.shortest (omega (arith, f.high)) in
    let short : length (decimal n) ≤ 20 = subst (λ (ds : List ℕ). length ds ≤ 20) again (length-decimal-le 20 v (omega arith) (omega (arith, f.high)) (omega (arith, f.high))) in
    let small : n < 10 ^ 20 = few_spelled 20 64 n [] (omega arith) (subst (λ (ds : List ℕ). length ds ≤ 20) (sym (spells n)) short) in
    ap (digits_value_after 10 0) (sym (spells n)) ∙ spelled_value 64 n [] (omega arith)
