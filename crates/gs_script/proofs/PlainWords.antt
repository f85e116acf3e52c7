-- Words with one space between them: the lines and the words of a text that begins with them.
use Rattle.std.proofs.Common.{◌≡◌, refl, ap, sym, ◌∙◌, subst, ℕ, ◌+◌, ◌<◌, true, false, List, [], ◌∷◌, ◌++◌, append-nil, Bor, MatchOption, IfSome, None, Some, bytes_eq, length, take, drop, arith, nat_le, nat_eq, ◌==◌, ◌&&◌, Option}
use Rattle.std.proofs.lemmas.Bool.{and_parts, and_from}
use Rattle.std.proofs.lemmas.Bool.Decides.{nat_tests}
use Rattle.std.proofs.lemmas.List.Splits.{slice_split-cons_no}
use Rattle.std.proofs.lemmas.List.{take-append-drop}
use Rattle.std.proofs.lemmas.Slice.Eq.{bytes_eq-Decides}
use Rattle.std.specs.Char.{is_ascii_digit}
use Rattle.std.specs.List.{list_all, slice_split, onto_first}
use Rattle.std.specs.Str.{all_ascii_digits}
use Rattle.gs_layout.specs.Name.{is_name_byte}
use Rattle.gs_script.specs.Words.{is_text, is_word, lines_of, words_of}
use Rattle.gs_script.specs.Plain.{FirstLine, lines_left}
use Rattle.gs_script.proofs.Digits.{worth}

-- a word of a line: it has bytes, and each is from 33 to 126
pub record IsPlain (word : List ℕ) : Type 0 where
  pub some : is_word word ≡ true
  pub printed : list_all is_name_byte word ≡ true

-- a line that is text and has these words
pub record HasWords (expected : List (List ℕ)) (line : List ℕ) : Type 0 where
  pub text : is_text line ≡ true
  pub words : words_of line ≡ expected

other_byte : (b c : ℕ) → c < 33 → is_name_byte b ≡ true → nat_eq b c ≡ false
other_byte b c small h = let low = (and_parts (nat_le 33 b) (nat_le b 126) h).0 in grind (arith, nat_tests)

-- printed bytes go onto the first part
onto : (c : ℕ) → c < 33 → (word rest part : List ℕ) (parts : List (List ℕ)) → list_all is_name_byte word ≡ true → slice_split (λ b. b == c) rest ≡ part ∷ parts → slice_split (λ b. b == c) (word ++ rest) ≡ (word ++ part) ∷ parts
onto c small [] rest part parts h e = e
onto c small (b ∷ word) rest part parts h e =
    let p = and_parts (is_name_byte b) (list_all is_name_byte word) h in
    slice_split-cons_no (λ b. b == c) b (word ++ rest) (other_byte b c small p.0) ∙ ap (onto_first b) (onto c small word rest part parts p.1 e)

text_byte : (b : ℕ) → is_name_byte b ≡ true → nat_le 32 b && nat_le b 126 ≡ true
text_byte b h = let p = and_parts (nat_le 33 b) (nat_le b 126) h in let low = p.0 in and_from (nat_le 32 b) (nat_le b 126) (grind (arith, nat_tests)) p.1

printed_text : (word line : List ℕ) → list_all is_name_byte word ≡ true → is_text line ≡ true → is_text (word ++ line) ≡ true
printed_text [] line h t = t
printed_text (b ∷ word) line h t =
    let p = and_parts (is_name_byte b) (list_all is_name_byte word) h in
    and_from (nat_le 32 b && nat_le b 126) (is_text (word ++ line)) (text_byte b p.0) (printed_text word line p.1 t)

digit_printed : (c : ℕ) → is_ascii_digit c ≡ true → is_name_byte c ≡ true
digit_printed c h = let w = worth c h in and_from (nat_le 33 c) (nat_le c 126) (let e = w.0 in grind (arith, nat_tests)) (let e = w.1 in grind (arith, nat_tests))

pub digits_printed : (word : List ℕ) → all_ascii_digits word ≡ true → list_all is_name_byte word ≡ true
digits_printed [] h = refl
digits_printed (c ∷ cs) h =
    let p = and_parts (is_ascii_digit c) (all_ascii_digits cs) h in
    and_from (is_name_byte c) (list_all is_name_byte cs) (digit_printed c p.0) (digits_printed cs p.1)

-- the last word of a line
alone_words : (word : List ℕ) → IsPlain word → HasWords (word ∷ []) word
alone_words word k =
    let parts : slice_split (λ b. b == 32) word ≡ word ∷ [] =
    subst (λ w. slice_split (λ b. b == 32) w ≡ w ∷ []) (append-nil word) (onto 32 (omega arith) word [] [] [] k.printed refl) in
    record {
      text = subst (λ w. is_text w ≡ true) (append-nil word) (printed_text word [] k.printed refl);
      words = rw (parts, k.some) refl;
    }

pub last_word : (word text : List ℕ) (left : Option (Bor (List ℕ))) → IsPlain word → lines_of text ≡ word ∷ lines_left left → FirstLine (HasWords (word ∷ [])) text left
last_word word text left k cut = record { line = word; cut = cut; is = alone_words word k }

-- a word and a space before a line
spaced_words : (word line : List ℕ) (words : List (List ℕ)) → IsPlain word → HasWords words line → HasWords (word ∷ words) (word ++ 32 ∷ line)
spaced_words word line words k t =
    let parts : slice_split (λ b. b == 32) (word ++ 32 ∷ line) ≡ word ∷ slice_split (λ b. b == 32) line =
    onto 32 (omega arith) word (32 ∷ line) [] (slice_split (λ b. b == 32) line) k.printed refl ∙ ap (λ w. w ∷ slice_split (λ b. b == 32) line) (append-nil word) in
    record {
      text = printed_text word (32 ∷ line) k.printed t.text;
      words = rw (parts, k.some) (ap (λ ws. word ∷ ws) t.words);
    }

-- a word that goes onto the first line of a text
line_more : (word rest line : List ℕ) (lines : List (List ℕ)) → IsPlain word → lines_of rest ≡ line ∷ lines → lines_of (word ++ rest) ≡ (word ++ line) ∷ lines
line_more word rest line lines k cut = onto 10 (omega arith) word rest line lines k.printed cut

pub more_line : (word text rest line : List ℕ) (words : List (List ℕ)) (left : Option (Bor (List ℕ))) → IsPlain word → text ≡ word ++ rest → lines_of rest ≡ (32 ∷ line) ∷ lines_left left → HasWords words line → FirstLine (HasWords (word ∷ words)) text left
more_line word text rest line words left k is cut t =
    record {
      line = word ++ 32 ∷ line;
      cut = ap lines_of is ∙ line_more word rest (32 ∷ line) (lines_left left) k cut;
      is = spaced_words word line words k t;
    }

pub more_words : (word text rest : List ℕ) (words : List (List ℕ)) (left : Option (Bor (List ℕ))) → IsPlain word → text ≡ word ++ 32 ∷ rest → FirstLine (HasWords words) rest left → FirstLine (HasWords (word ∷ words)) text left
more_words word text rest words left k is b = more_line word text (32 ∷ rest) b.line words left k is (ap (onto_first 32) b.cut) b.is

-- a word where the line ends
pub ended_word : (word text rest : List ℕ) (left : Option (Bor (List ℕ))) → IsPlain word → text ≡ word ++ rest → lines_of rest ≡ [] ∷ lines_left left → lines_of text ≡ word ∷ lines_left left
ended_word word text rest left k is end = ap lines_of is ∙ line_more word rest [] (lines_left left) k end ∙ ap (λ w. w ∷ lines_left left) (append-nil word)

-- what stands behind a front
pub behind_front : (o : Option (Bor (List ℕ))) (text front : List ℕ) → MatchOption o (bytes_eq (take (length front) text) front ≡ false) (λ x. (bytes_eq (take (length front) text) front ≡ true) × (x.now ≡ drop (length front) text) × (length x.now + length front ≡ length text)) → IfSome o (λ rest. text ≡ front ++ rest.now)
behind_front None text front h = tt
behind_front (Some x) text front h =
    let same : take (length front) text ≡ front = (bytes_eq-Decides (take (length front) text) front).0 h.0 in
    sym (take-append-drop (length front) text) ∙ ap (λ l. l ++ drop (length front) text) same ∙ ap (λ l. front ++ l) (sym h.1)
