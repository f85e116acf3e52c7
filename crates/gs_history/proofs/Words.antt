-- A text of words with a space between each two has these words, and lines are told apart.
use Rattle.std.proofs.Common.{◌≡◌, ℕ, zero, suc, ◌/◌, ◌%◌, ◌<◌, Bool, true, false, cond, ◌==◌, nat_le, List, [], ◌∷◌, ◌++◌, All, decimal, refl, ap, ◌∙◌, append_assoc, mod-lt, arith}
use Rattle.std.proofs.lemmas.Bool.{and_parts, and_from}
use Rattle.std.proofs.lemmas.Bool.Decides.{nat_tests}
use Rattle.std.proofs.lemmas.List.Elements.{All-nil, All-cons, All-append}
use Rattle.std.proofs.lemmas.List.Splits.{slice_split_at, slice_split_none}
use Rattle.std.specs.Fmt.{digits, digits_onto, digit_glyph}
use Rattle.std.specs.List.{join_with_byte, list_all, slice_split}
use Rattle.gs_layout.specs.Name.{is_name_byte}
use Rattle.gs_lines.specs.Lines.{line}
use Rattle.gs_history.specs.Reading.{words_of}

-- bytes that may stand in a name: no space and no newline is among them
abbrev pub IsWord : List ℕ → Type 0
IsWord w = list_all is_name_byte w ≡ true

abbrev pub AreWords : List (List ℕ) → Type 0
AreWords [] = Unit {0}
AreWords (w ∷ ws) = IsWord w × AreWords ws

not_below : (c b : ℕ) → c < 33 → is_name_byte b ≡ true → (b == c) ≡ false
not_below c b lt h = let e = (and_parts (nat_le 33 b) (nat_le b 126) h).0 in grind (arith, nat_tests)

-- a byte below those of names is not in a word
lacks : (c : ℕ) (w : List ℕ) → c < 33 → IsWord w → All (λ b. (b == c) ≡ false) w
lacks c [] lt h = All-nil (λ b. (b == c) ≡ false)
lacks c (b ∷ w) lt h =
    let p = and_parts (is_name_byte b) (list_all is_name_byte w) h in
    All-cons (λ b. (b == c) ≡ false) b w (not_below c b lt p.0) (lacks c w lt p.1)

-- the words of words with a space between each two
pub words_are : (w : List ℕ) (ws : List (List ℕ)) → AreWords (w ∷ ws) → words_of (join_with_byte 32 (w ∷ ws)) ≡ w ∷ ws
words_are w [] h = slice_split_none (λ b. b == 32) w (lacks 32 w (omega arith) h.0)
words_are w (v ∷ ws) h =
    slice_split_at (λ b. b == 32) w 32 (join_with_byte 32 (v ∷ ws)) (lacks 32 w (omega arith) h.0) refl
    ∙ ap (λ vs. w ∷ vs) (words_are v ws h.1)

-- the digits of a number are a word
glyph_is : (d : ℕ) → d < 10 → is_name_byte (digit_glyph false d) ≡ true
glyph_is d lt = grind (arith, nat_tests)

either_is : (b : Bool) (v w : List ℕ) → IsWord v → IsWord w → IsWord (cond b v w)
either_is true v w g h = g
either_is false v w g h = h

digits_are : (k n : ℕ) (rest : List ℕ) → IsWord rest → IsWord (digits_onto k 10 false n rest)
digits_are zero n rest h = h
digits_are (suc k) n rest h =
    let first = digit_glyph false (n % 10) ∷ rest in
    let is : IsWord first = and_from _ _ (glyph_is (n % 10) (mod-lt n (omega arith))) h in
    either_is (n / 10 == 0) first (digits_onto k 10 false (n / 10) first) is (digits_are k (n / 10) first is)

pub decimal_is_word : (n : ℕ) → IsWord (decimal n)
unfolding digits
decimal_is_word n = digits_are 64 n [] refl

-- a byte below those of names, but for the space, is in no text of words
text_lacks : (c : ℕ) (w : List ℕ) (ws : List (List ℕ)) → c < 32 → AreWords (w ∷ ws) → All (λ b. (b == c) ≡ false) (join_with_byte 32 (w ∷ ws))
text_lacks c w [] lt h = lacks c w (omega arith) h.0
text_lacks c w (v ∷ ws) lt h =
    let space : (32 == c) ≡ false = grind (arith, nat_tests) in
    All-append (λ b. (b == c) ≡ false) w (32 ∷ join_with_byte 32 (v ∷ ws)) (lacks c w (omega arith) h.0)
    (All-cons (λ b. (b == c) ≡ false) 32 (join_with_byte 32 (v ∷ ws)) space (text_lacks c v ws lt h.1))

-- a line of words is the first of the lines
pub line_is_first : (w : List ℕ) (ws : List (List ℕ)) (rest : List ℕ) → AreWords (w ∷ ws) → slice_split (λ b. b == 10) (line (join_with_byte 32 (w ∷ ws)) ++ rest) ≡ join_with_byte 32 (w ∷ ws) ∷ slice_split (λ b. b == 10) rest
line_is_first w ws rest h =
    let text = join_with_byte 32 (w ∷ ws) in
    ap (slice_split (λ b. b == 10)) (append_assoc text (10 ∷ []) rest) ∙ slice_split_at (λ b. b == 10) text 10 rest (text_lacks 10 w ws (omega arith) h) refl

-- parts of a text that are joined from the left, and from the right
abbrev pub from_left : List ℕ → List (List ℕ) → List ℕ
from_left x [] = x
from_left x (y ∷ ys) = from_left (x ++ y) ys

abbrev pub from_right : List ℕ → List (List ℕ) → List ℕ
from_right x [] = x
from_right x (y ∷ ys) = x ++ from_right y ys

first_apart : (x y : List ℕ) (ys : List (List ℕ)) → from_right (x ++ y) ys ≡ x ++ from_right y ys
first_apart x y [] = refl
first_apart x y (z ∷ zs) = append_assoc x y (from_right z zs)

pub regroup : (x : List ℕ) (ys : List (List ℕ)) → from_left x ys ≡ from_right x ys
regroup x [] = refl
regroup x (y ∷ ys) = regroup (x ++ y) ys ∙ first_apart x y ys
