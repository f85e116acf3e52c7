-- Texts in quotation marks, and lines of which no byte has to be escaped.
use Rattle.std.proofs.Common.{◌≡◌, ◌∙◌, refl, sym, ap, subst, ℕ, zero, suc, ◌+◌, ◌-◌, ◌<◌, ◌≤◌, ◌==◌, ◌||◌, nat_lt, Bool, true, false, if◌then◌else◌, inl, inr, eq-zero-or-pos, List, [], ◌∷◌, ◌++◌, append-nil, drop, get_or, get_or-take, get_or-drop, length, length-append, length-take-le, Fits, w8, slice_index, take, arith}
use Rattle.std.specs.Bool.{OnTrue}
use Rattle.std.specs.List.{range_with_len}
use Rattle.std.proofs.lemmas.List.{get_or_append_left, get_or-append_right}
use Rattle.std.proofs.lemmas.Simd.{length-chunk, pick_l_whole}
use lib.Lanes.{chunk, pick_l}
use Rattle.std.specs.List.{All}
use Rattle.std.specs.Str.Lines.{lines as lines_in, lines_of_parts, strip_carriage_return}
use Rattle.std.proofs.lemmas.Bool.{ltb-false, not-true, or_parts}
use Rattle.std.proofs.lemmas.Bool.Decides.{nat_tests}
use Rattle.std.proofs.lemmas.List.Splits.{slice_split_at}
use Rattle.std.specs.Str.{IsUtf8}
use Rattle.std.proofs.lemmas.Str.{IsCharBoundary-at_seam, IsUtf8-from_ascii, IsUtf8-take}
use Rattle.std.proofs.lemmas.Str.Ascii.{IsAscii-cons}
use Rattle.std.proofs.Math.Seq.{take-append_seam}
use Rattle.json.specs.Run.{is_plain, is_stop}
use Rattle.json.specs.Print.{escape, print, print_from, quoted}
use Rattle.json.specs.Token.{string}
use Rattle.json.specs.Written.{PlainBetween, Written}
use Rattle.json.proofs.Printed.Plain.{escape_on_plain}

-- bytes of which none is escaped stand for themselves
pub plain_quoted : (bytes : List ℕ) → PlainBetween bytes 0 (length bytes) → quoted bytes ≡ (34 ∷ []) ++ (bytes ++ (34 ∷ []))
plain_quoted bytes plain = let same : escape bytes ≡ bytes = escape_on_plain true bytes plain in ap (λ (t : List ℕ). 34 ∷ (t ++ 34 ∷ [])) same

only_string : (s : List ℕ) → print (string s ∷ []) ≡ quoted s
unfolding print_from
only_string s = append-nil (quoted s)

-- a text that was written into nothing
pub string_alone : (start end : Written) (s bytes : List ℕ) → start.before ≡ [] → start.tokens ≡ [] → end.before ≡ start.before → end.tokens ≡ start.tokens ++ string s ∷ [] → bytes ≡ end.before ++ print end.tokens → bytes ≡ quoted s
string_alone start end s bytes nothing none kept added is =
    is ∙ ap (λ xs. xs ++ print end.tokens) (kept ∙ nothing) ∙ ap print (added ∙ ap (λ ts. ts ++ string s ∷ []) none) ∙ only_string s

not_equal : (x n : ℕ) → n < x → (x == n) ≡ false
not_equal x n lt = grind (arith, nat_tests)

-- a byte that is not escaped is none of those below a space
not_low : (x n : ℕ) → n < 32 → is_plain x ≡ true → (x == n) ≡ false
not_low x n low plain =
    let high : 32 ≤ x = ltb-false x 32 (or_parts ((x == 34) || (x == 92)) (nat_lt x 32) (not-true (is_stop x) plain)).1 in
    not_equal x n (omega (arith, high))

no_newline : (line : List ℕ) → PlainBetween line 0 (length line) → All (λ b. (b == 10) ≡ false) line
no_newline [] plain k d lt = absurd (omega arith)
no_newline (x ∷ xs) plain zero d lt = not_low x 10 (omega arith) (plain 0 (omega arith) (omega arith))
no_newline (x ∷ xs) plain (suc k) d lt = no_newline xs (λ j p q. plain (suc j) (omega arith) (omega arith)) k d (omega arith)

no_return : (line : List ℕ) → PlainBetween line 0 (length line) → (slice_index line (length line - 1) == 13) ≡ false
no_return [] plain = refl
no_return (x ∷ xs) plain = not_low (slice_index (x ∷ xs) (length (x ∷ xs) - 1)) 13 (omega arith) (plain (length (x ∷ xs) - 1) (omega arith) (omega arith))

same_stripped : (line : List ℕ) → PlainBetween line 0 (length line) → strip_carriage_return line ≡ line
same_stripped line plain = ap (λ (b : Bool). if b then take (length line - 1) line else line) (no_return line plain)

-- a line of which no byte is escaped is the only one, and loses no carriage return
pub one_line : (line : List ℕ) → PlainBetween line 0 (length line) → lines_in (line ++ 10 ∷ []) ≡ line ∷ []
one_line line plain = ap lines_of_parts (slice_split_at (λ b. b == 10) line 10 [] (no_newline line plain) refl) ∙ ap (λ (l : List ℕ). l ∷ []) (same_stripped line plain)

-- what stands in front of a newline is text
pub utf8_front : (bytes line : List ℕ) → bytes ≡ line ++ 10 ∷ [] → IsUtf8 bytes → IsUtf8 line
utf8_front bytes line e u =
    let seam = IsCharBoundary-at_seam bytes line (10 ∷ []) e newline in
    subst IsUtf8 (ap (take (length line)) e ∙ take-append_seam line (10 ∷ [])) (IsUtf8-take bytes (length line) u seam)
  where
    newline : IsUtf8 (10 ∷ [])
    newline = IsUtf8-from_ascii (10 ∷ []) (IsAscii-cons 10 [] (omega arith) (λ i. omega arith))

-- bytes of which none is escaped that are seen as their first and their last ones, which may overlap
ends_plain : (bytes : List ℕ) (n : ℕ) → n ≤ length bytes → length bytes ≤ n + n → PlainBetween (take n bytes ++ chunk (length bytes - n) n bytes) 0 (n + n) → PlainBetween bytes 0 (length bytes)
ends_plain bytes n many few plain k p q =
    let last = length bytes - n in
    let front : length (take n bytes) ≡ n = length-take-le n bytes many in
    elim (eq-zero-or-pos (n - k)) [
      | inl behind ↦
          let here : n + (k - last) < n + n = omega (arith, many, q) in
          ap is_plain (sym (get_or-append_right (take n bytes) (chunk last n bytes) n (n + (k - last)) 0 front (omega arith) ∙ ap (λ j. get_or (chunk last n bytes) j 0) (omega arith) ∙ get_or-take n (drop last bytes) (k - last) 0 (omega (arith, many, q)) ∙ get_or-drop last bytes (k - last) 0 ∙ ap (λ j. get_or bytes j 0) (omega (arith, many, few, behind))))
          ∙ plain (n + (k - last)) (omega arith) here
      | inr before ↦
          ap is_plain (sym (get_or_append_left (take n bytes) (chunk last n bytes) 0 k (omega (arith, front, before)) ∙ get_or-take n bytes k 0 (omega (arith, before))))
          ∙ plain k p (omega (arith, before))
    ]

-- bytes that are seen so are bytes
front_fits : (n : ℕ) (xs : List ℕ) → ((k : ℕ) → Fits w8 (get_or xs k 0)) → (k : ℕ) → Fits w8 (get_or (take n xs) k 0)
front_fits zero xs fits k = record { fits = omega arith }
front_fits (suc n) [] fits k = record { fits = omega arith }
front_fits (suc n) (x ∷ xs) fits zero = fits 0
front_fits (suc n) (x ∷ xs) fits (suc k) = front_fits n xs (λ j. fits (suc j)) k

both_fit : (xs ys : List ℕ) → ((k : ℕ) → Fits w8 (get_or xs k 0)) → ((k : ℕ) → Fits w8 (get_or ys k 0)) → (k : ℕ) → Fits w8 (get_or (xs ++ ys) k 0)
both_fit [] ys fit more k = more k
both_fit (x ∷ xs) ys fit more zero = fit 0
both_fit (x ∷ xs) ys fit more (suc k) = both_fit xs ys (λ j. fit (suc j)) more k

behind_fits : (i : ℕ) (xs : List ℕ) → ((k : ℕ) → Fits w8 (get_or xs k 0)) → (k : ℕ) → Fits w8 (get_or (drop i xs) k 0)
behind_fits i xs fits k = subst (λ (n : ℕ). Fits w8 n) (sym (get_or-drop i xs k 0)) (fits (i + k))

on_true : (b : Bool) (P Q : Type 0) → (P → Q) → OnTrue b P → OnTrue b Q
on_true true P Q f h = f h
on_true false P Q f h = tt

-- the lanes of two vectors are the first and the last bytes
both_lanes : (bytes : List ℕ) (n : ℕ) → n ≤ length bytes → let xs = take n bytes ++ chunk (length bytes - n) n bytes in pick_l 0 xs (range_with_len 0 (n + n)) ≡ xs
both_lanes bytes n many =
    let front : length (take n bytes) ≡ n = length-take-le n bytes many in
    let back : length (chunk (length bytes - n) n bytes) ≡ n = length-chunk (length bytes - n) n bytes (omega (arith, many)) in
    let long : length (take n bytes ++ chunk (length bytes - n) n bytes) ≡ n + n = length-append (take n bytes) (chunk (length bytes - n) n bytes) ∙ omega (arith, front, back) in
    pick_l_whole 0 (take n bytes ++ chunk (length bytes - n) n bytes) (n + n) long

pub lanes_fit : (bytes : List ℕ) (n : ℕ) → n ≤ length bytes → ((k : ℕ) → Fits w8 (get_or bytes k 0)) → (k : ℕ) → Fits w8 (get_or (pick_l 0 (take n bytes ++ chunk (length bytes - n) n bytes) (range_with_len 0 (n + n))) k 0)
lanes_fit bytes n many fits k =
    subst (λ (xs : List ℕ). Fits w8 (get_or xs k 0)) (sym (both_lanes bytes n many)) (both_fit (take n bytes) (chunk (length bytes - n) n bytes) (front_fits n bytes fits) (front_fits n (drop (length bytes - n) bytes) (behind_fits (length bytes - n) bytes fits)) k)

-- so none of the bytes is escaped if none of the lanes is
pub lanes_plain : (b : Bool) (bytes : List ℕ) (n : ℕ) → n ≤ length bytes → length bytes ≤ n + n
    → OnTrue b (PlainBetween (pick_l 0 (take n bytes ++ chunk (length bytes - n) n bytes) (range_with_len 0 (n + n))) 0 (n + n)) → OnTrue b (PlainBetween bytes 0 (length bytes))
lanes_plain b bytes n many few =
    on_true b _ _ (λ plain. ends_plain bytes n many few (subst (λ (ys : List ℕ). PlainBetween ys 0 (n + n)) (both_lanes bytes n many) plain))
