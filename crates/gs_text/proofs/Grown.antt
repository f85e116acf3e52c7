-- What a text is to which bytes were added.
use Rattle.std.proofs.Common.{◌≡◌, ◌≤◌, ◌<◌, ◌^◌, ℕ, zero, suc, ◌+◌, ◌-◌, ◌/◌, ◌%◌, true, List, [], ◌∷◌, ◌++◌, drop, take, length, length-append, append_assoc, decimal, slice_index_or, slice_set, refl, ap, sym, subst, ◌∙◌, arith, inl, inr, eq-zero-or-pos}
use Rattle.std.proofs.lemmas.Grind.{take-set_at}
use Rattle.std.proofs.Math.Seq.{get_or-append_seam, take-append_seam, take-append-add}
use Rattle.std.proofs.lemmas.Fmt.{IsAscii-decimal, IsAscii-decimal_wide, length-decimal-le, decimal_nonempty, decimal_step, decimal_digit}
use Rattle.std.proofs.lemmas.List.{get_or-take, length-take-le, take-append-drop, take-take, take_rest}
use Rattle.std.proofs.lemmas.Str.{IsUtf8-append, IsUtf8-from_ascii, is_utf8-from_IsUtf8}
use Rattle.std.specs.Str.{IsUtf8, is_utf8}
use Rattle.itoa.proofs.Decimal.{length_four, length_one, length_pair, length_two}

-- how many digits a number has
pub digits_one : (n : ℕ) → n < 10 → 1 ≡ length (decimal n)
digits_one n h = sym (length_one n h)

pub digits_two : (n : ℕ) → 10 ≤ n → n < 100 → 2 ≡ length (decimal n)
digits_two n l h = sym (length_two n l h)

pub digits_three : (n : ℕ) → 100 ≤ n → n < 1000 → 3 ≡ length (decimal n)
digits_three n l h = omega (arith, length_pair n l (omega arith), length_one (n / 100) (omega arith))

pub digits_four : (n : ℕ) → 1000 ≤ n → n < 10000 → 4 ≡ length (decimal n)
digits_four n l h = omega (arith, length_pair n (omega arith) (omega arith), length_two (n / 100) (omega arith) (omega arith))

pub digits_five : (n : ℕ) → 10000 ≤ n → n < 100000 → 5 ≡ length (decimal n)
digits_five n l h = omega (arith, length_four n l (omega arith), length_one (n / 10000) (omega arith))

pub digits_six : (n : ℕ) → 100000 ≤ n → n < 1000000 → 6 ≡ length (decimal n)
digits_six n l h = omega (arith, length_four n (omega arith) (omega arith), length_two (n / 10000) (omega arith) (omega arith))

pub digits_seven : (n : ℕ) → 1000000 ≤ n → n < 10000000 → 7 ≡ length (decimal n)
digits_seven n l h = omega (arith, length_four n (omega arith) (omega arith), digits_three (n / 10000) (omega arith) (omega arith))

pub digits_eight : (n : ℕ) → 10000000 ≤ n → n < 100000000 → 8 ≡ length (decimal n)
digits_eight n l h = omega (arith, length_four n (omega arith) (omega arith), digits_four (n / 10000) (omega arith) (omega arith))

pub digits_most : (n : ℕ) → n < 2 ^ 64 → length (decimal n) ≤ 20
digits_most n h = length-decimal-le 20 n (omega arith) (omega arith) h

-- the first of the bytes that were written behind others
pub first_put : (at count end : ℕ) (old new more : List ℕ) → at + length more ≤ length old → count ≤ length more → end ≡ at + length more → take end new ≡ take at old ++ more
    → take (at + count) new ≡ take at old ++ take count more
first_put at count end old new more room few is written =
    let size : length (take at old) ≡ at = length-take-le at old (omega (arith, room)) in
    sym (take-take (at + count) end new (omega (arith, few, is)))
    ∙ ap (take (at + count)) written
    ∙ ap (λ (n : ℕ). take (n + count) (take at old ++ more)) (sym size)
    ∙ take-append-add (take at old) more count

-- a number whose digits were written between the first bytes and the others
pub number_put : (n at start end : ℕ) (old new : List ℕ) → start + length (decimal n) ≡ end → end ≡ at + length (decimal n) → end ≤ length old → drop start new ≡ decimal n ++ drop end old → take start new ≡ take start old → take end new ≡ take at old ++ decimal n
number_put n at start end old new e f h w b =
    let here : start ≡ at = omega (arith, e, f) in
    let size : length (take at old) ≡ at = length-take-le at old (omega (arith, f, h)) in
    let front : take at new ≡ take at old = subst (λ (m : ℕ). take m new ≡ take m old) here b in
    let back : drop at new ≡ decimal n ++ drop end old = subst (λ (m : ℕ). drop m new ≡ decimal n ++ drop end old) here w in
    let whole : new ≡ take at old ++ (decimal n ++ drop end old) = sym (take-append-drop at new) ∙ (ap (λ (xs : List ℕ). xs ++ drop at new) front ∙ ap (λ (xs : List ℕ). take at old ++ xs) back) in
    let behind : end ≡ length (take at old) + length (decimal n) = omega (arith, f, size) in
    ap (take end) whole
    ∙ (ap (λ (m : ℕ). take m (take at old ++ (decimal n ++ drop end old))) behind
    ∙ (take-append-add (take at old) (decimal n ++ drop end old) (length (decimal n))
    ∙ ap (λ (xs : List ℕ). take at old ++ xs) (take-append_seam (decimal n) (drop end old))))

pub both_utf8 : (front back whole : List ℕ) → whole ≡ front ++ back → IsUtf8 back → IsUtf8 front → IsUtf8 whole
both_utf8 front back whole e b f = subst IsUtf8 (sym e) (IsUtf8-append front back f b)

pub number_utf8 : (n : ℕ) → n < 2 ^ 64 → IsUtf8 (decimal n)
number_utf8 n h = IsUtf8-from_ascii (decimal n) (IsAscii-decimal n h)

pub mask_utf8 : (n : ℕ) → n < 2 ^ 128 → IsUtf8 (decimal n)
mask_utf8 n h = IsUtf8-from_ascii (decimal n) (IsAscii-decimal_wide n (omega arith))

-- what was written into bytes that were lent stands among them
pub lent_utf8 : (items new : List ℕ) (at size : ℕ) → size ≡ length items → length new ≡ length items → IsUtf8 (take at new) → is_utf8 (take at (take size (new ++ drop (length new) items))) ≡ true
lent_utf8 items new at size e h u =
    let whole : take size (new ++ drop (length new) items) ≡ new = subst (λ (m : ℕ). take m (new ++ drop (length new) items) ≡ new) (h ∙ sym e) (take-append_seam new (drop (length new) items)) in
    ap (λ (xs : List ℕ). is_utf8 (take at xs)) whole ∙ is_utf8-from_IsUtf8 (take at new) u

-- a digit that was written behind words
pub digit_put : (at here end digit : ℕ) (old mid words : List ℕ) → digit < 10 → here < length mid → end ≡ here + 1 → take here mid ≡ take at old ++ words
    → take end (slice_set mid here (48 + digit)) ≡ (take at old ++ words) ++ decimal digit
digit_put at here end digit old mid words few room is front =
    take-set_at mid here end (48 + digit) is room ∙ (ap (λ (xs : List ℕ). xs ++ (48 + digit) ∷ []) front ∙ ap (λ (xs : List ℕ). (take at old ++ words) ++ xs) (sym (decimal_digit digit few)))

-- where more was written, and less of it is meant
pub part_put : (at len most : ℕ) (old more new part : List ℕ) → at + most ≤ length old → len ≤ most → take (at + most) new ≡ take at old ++ more → take len more ≡ part → take (at + len) new ≡ take at old ++ part
part_put at len most old more new part h k e p =
    let size : length (take at old) ≡ at = length-take-le at old (omega (arith, h)) in
    let there : at + len ≡ length (take at old) + len = omega (arith, size) in
    sym (take-take (at + len) (at + most) new (omega (arith, k)))
    ∙ (ap (take (at + len)) e
    ∙ (ap (λ (m : ℕ). take m (take at old ++ more)) there
    ∙ (take-append-add (take at old) more len
    ∙ ap (λ (xs : List ℕ). take at old ++ xs) p)))

-- digits that are kept are some
pub has_digit : (n len : ℕ) (bytes : List ℕ) → n < 2 ^ 64 → take len bytes ≡ decimal n → 1 ≤ len
has_digit n zero bytes h e = absurd (omega (arith, decimal_nonempty n h, ap length e))
has_digit n (suc len) bytes h e = omega arith

-- the digits of a number and of the next one, whose last digit is not 0, differ in the last alone
same_front : (n next : ℕ) → next ≡ n + 1 → next < 2 ^ 64 → n % 10 < 9 → (front : List ℕ) × (decimal n ≡ front ++ (48 + n % 10) ∷ []) × (decimal next ≡ front ++ (48 + next % 10) ∷ [])
same_front n next e h d =
    elim (eq-zero-or-pos (10 - n)) [
      | inl z ↦ (decimal (n / 10), decimal_step n (omega arith) (omega (arith, e, h)), decimal_step next (omega (arith, e)) h ∙ ap (λ (m : ℕ). decimal m ++ (48 + next % 10) ∷ []) (omega (arith, e, d)))
      | inr g ↦ ([], decimal_digit n (omega arith) ∙ ap (λ (m : ℕ). (48 + m) ∷ []) (omega arith), decimal_digit next (omega (arith, e, d)) ∙ ap (λ (m : ℕ). (48 + m) ∷ []) (omega (arith, e, d)))
    ]

-- the last digit of a number
with_last : (n : ℕ) → n < 2 ^ 64 → (front : List ℕ) × (decimal n ≡ front ++ (48 + n % 10) ∷ [])
with_last n h =
    elim (eq-zero-or-pos (10 - n)) [
      | inl z ↦ (decimal (n / 10), decimal_step n (omega arith) h)
      | inr g ↦ ([], decimal_digit n (omega arith) ∙ ap (λ (m : ℕ). (48 + m) ∷ []) (omega arith))
    ]

-- the last of the digits that are kept
pub last_digit : (n len d : ℕ) (bytes : List ℕ) → n < 2 ^ 64 → len ≤ length bytes → take len bytes ≡ decimal n → slice_index_or bytes (len - 1) d ≡ 48 + n % 10
last_digit n len d bytes h within kept =
    let f = with_last n h in
    let size : len ≡ length f.0 + 1 = omega (arith, ap length (kept ∙ f.1), length-take-le len bytes within, length-append f.0 ((48 + n % 10) ∷ [])) in
    let last : len - 1 ≡ length f.0 = omega (arith, size) in
    sym (get_or-take len bytes (len - 1) d (omega (arith, size)))
    ∙ (ap (λ (xs : List ℕ). slice_index_or xs (len - 1) d) (kept ∙ f.1)
    ∙ (ap (λ (i : ℕ). slice_index_or (f.0 ++ (48 + n % 10) ∷ []) i d) last
    ∙ get_or-append_seam f.0 (48 + n % 10) [] d))

-- the digits of a number that are kept, with the next one as the last
pub raised : (n len b : ℕ) (bytes : List ℕ) → n + 1 < 2 ^ 64 → b ≡ 48 + n % 10 → b < 57 → len ≤ length bytes → take len bytes ≡ decimal n
    → take len (slice_set bytes (len - 1) (b + 1)) ≡ decimal (n + 1)
raised n len b bytes h is few within kept =
    let d : n % 10 < 9 = omega (arith, is, few) in
    let f = same_front n (n + 1) refl h d in
    let size : len ≡ length f.0 + 1 = omega (arith, ap length (kept ∙ f.1), length-take-le len bytes within, length-append f.0 ((48 + n % 10) ∷ [])) in
    let last : len - 1 ≡ length f.0 = omega (arith, size) in
    let digit : b + 1 ≡ 48 + (n + 1) % 10 = omega (arith, d, is) in
    ap (λ (x : ℕ). take len (slice_set bytes (len - 1) x)) digit
    ∙ (ap (λ (i : ℕ). take len (slice_set bytes i (48 + (n + 1) % 10))) last
    ∙ (take-set_at bytes (length f.0) len (48 + (n + 1) % 10) size (omega (arith, size, within))
    ∙ (ap (λ (xs : List ℕ). xs ++ (48 + (n + 1) % 10) ∷ []) (sym (take-take (length f.0) len bytes (omega (arith, size))) ∙ (ap (take (length f.0)) (kept ∙ f.1) ∙ take-append_seam f.0 ((48 + n % 10) ∷ [])))
    ∙ sym f.2)))

-- the last bytes are as many as were written of them
pub last_put : (n : ℕ) (more : List ℕ) → n ≤ length more → take n (take (length more - (length more - n)) (drop (length more - n) more)) ≡ take (length more - (length more - n)) (drop (length more - n) more)
last_put n more many =
    let same : length more - (length more - n) ≡ n = omega (arith, many) in
    take-take n (length more - (length more - n)) (drop (length more - n) more) (omega (arith, same)) ∙ ap (λ (m : ℕ). take m (drop (length more - n) more)) (sym same)

-- bytes that were written as their first and their last ones, which may overlap
pub ends_put : (at n end : ℕ) (old mid new more : List ℕ) → at + length more ≤ length old → n ≤ length more → length more ≤ n + n → end ≡ at + length more
    → take (at + n) mid ≡ take at old ++ take n more
    → take end new ≡ take (at + (length more - n)) mid ++ take (length more - (length more - n)) (drop (length more - n) more)
    → take end new ≡ take at old ++ more
ends_put at n end old mid new more room many few is first second =
    let size : length (take at old) ≡ at = length-take-le at old (omega (arith, room)) in
    let there : at + (length more - n) ≡ length (take at old) + (length more - n) = omega (arith, size) in
    let front : take (at + (length more - n)) mid ≡ take at old ++ take (length more - n) more =
    sym (take-take (at + (length more - n)) (at + n) mid (omega (arith, few)))
    ∙ (ap (take (at + (length more - n))) first
    ∙ (ap (λ (m : ℕ). take m (take at old ++ take n more)) there
    ∙ (take-append-add (take at old) (take n more) (length more - n)
    ∙ ap (λ (xs : List ℕ). take at old ++ xs) (take-take (length more - n) n more (omega (arith, few)))))) in
    second
    ∙ (ap (λ (xs : List ℕ). take (at + (length more - n)) mid ++ xs) (take_rest more (length more - n))
    ∙ (ap (λ (xs : List ℕ). xs ++ drop (length more - n) more) front
    ∙ (append_assoc (take at old) (take (length more - n) more) (drop (length more - n) more)
    ∙ ap (λ (xs : List ℕ). take at old ++ xs) (take-append-drop (length more - n) more))))
