-- A walk over the words of a line.
use Rattle.std.proofs.Common.{◌≡◌, ◌≢◌, ◌≤◌, ◌<◌, ◌+◌, ◌∙◌, ℕ, suc, zero, Bool, true, false, not, ◌==◌, nat_lt, List, [], ◌∷◌, ◌++◌, filter, take, drop, get_or, length, refl, ap, sym, subst, append_assoc, append-nil, arith}
use Rattle.std.specs.List.{list_all, onto_first, slice_split}
use Rattle.std.proofs.lemmas.Bool.{and_parts}
use Rattle.std.proofs.lemmas.Bool.Decides.{nat_tests}
use Rattle.std.proofs.lemmas.List.{length-append, get_or-drop, take-append-drop, length-drop, length-take-le}
use Rattle.std.proofs.lemmas.List.Elements.{filter-append}
use Rattle.std.proofs.lemmas.List.Splits.{slice_split-cons_no, slice_split-cons_yes}
use Rattle.std.proofs.Math.Seq.{drop-nil, take-add}
use Rattle.gs_script.specs.declared.marked.Marked.{Marked}
use Rattle.gs_script.specs.Words.{is_word, words_of}
use Rattle.gs_script.specs.Found.{IsCut, Marks, MarksIf, MarksWord, has_none}
use Rattle.gs_script.proofs.Saying.{words_behind}

abbrev is_space : ℕ → Bool
is_space b = b == 32

abbrev parts_in : List ℕ → List (List ℕ)
parts_in bytes = slice_split is_space bytes

-- there is always a first part
record Parts (bytes : List ℕ) : Type 0 where
  first : List ℕ
  others : List (List ℕ)
  is : parts_in bytes ≡ first ∷ others

parts_of : (bytes : List ℕ) → Parts bytes
parts_of [] = record { first = []; others = []; is = refl }
parts_of (b ∷ bs) = by_test (parts_of bs) (is_space b) refl
  where
    by_test : Parts bs → (t : Bool) → is_space b ≡ t → Parts (b ∷ bs)
    by_test p true e = record { first = []; others = parts_in bs; is = slice_split-cons_yes is_space b bs e }
    by_test p false e = record { first = b ∷ p.first; others = p.others; is = slice_split-cons_no is_space b bs e ∙ ap (onto_first b) p.is }

-- a space parts
cut_at : (front rest : List ℕ) → parts_in (front ++ 32 ∷ rest) ≡ parts_in front ++ parts_in rest
cut_at [] rest = slice_split-cons_yes is_space 32 rest refl
cut_at (b ∷ bs) rest = by_test (parts_of bs) (cut_at bs rest) (is_space b) refl
  where
    by_test : Parts bs → parts_in (bs ++ 32 ∷ rest) ≡ parts_in bs ++ parts_in rest → (t : Bool) → is_space b ≡ t → parts_in (b ∷ bs ++ 32 ∷ rest) ≡ parts_in (b ∷ bs) ++ parts_in rest
    by_test p behind true e =
        slice_split-cons_yes is_space b (bs ++ 32 ∷ rest) e ∙ ap (λ (ps : List (List ℕ)). [] ∷ ps) behind
        ∙ ap (λ (ps : List (List ℕ)). ps ++ parts_in rest) (sym (slice_split-cons_yes is_space b bs e))
    by_test p behind false e =
        slice_split-cons_no is_space b (bs ++ 32 ∷ rest) e
        ∙ ap (onto_first b) (behind ∙ ap (λ (ps : List (List ℕ)). ps ++ parts_in rest) p.is)
        ∙ ap (λ (ps : List (List ℕ)). onto_first b ps ++ parts_in rest) (sym p.is)
        ∙ ap (λ (ps : List (List ℕ)). ps ++ parts_in rest) (sym (slice_split-cons_no is_space b bs e))

words_cut : (front rest : List ℕ) → words_of (front ++ 32 ∷ rest) ≡ words_of front ++ words_of rest
words_cut front rest = ap (filter is_word) (cut_at front rest) ∙ filter-append is_word (parts_in front) (parts_in rest)

-- spaces have no words, and change none behind them
spaces_before : (xs ys : List ℕ) → list_all is_space xs ≡ true → words_of (xs ++ ys) ≡ words_of ys
spaces_before [] ys h = refl
spaces_before (b ∷ bs) ys h =
    let p = and_parts (is_space b) (list_all is_space bs) h in
    ap (filter is_word) (slice_split-cons_yes is_space b (bs ++ ys) p.0) ∙ spaces_before bs ys p.1

no_words : (xs : List ℕ) → list_all is_space xs ≡ true → words_of xs ≡ []
no_words xs h = ap words_of (sym (append-nil xs)) ∙ spaces_before xs [] h

is_32 : (b : ℕ) → is_space b ≡ true → b ≡ 32
is_32 b h = grind (arith, nat_tests)

-- spaces behind a text change none before them
spaces_behind : (xs ys : List ℕ) → list_all is_space ys ≡ true → words_of (xs ++ ys) ≡ words_of xs
spaces_behind xs [] h = ap words_of (append-nil xs)
spaces_behind xs (b ∷ bs) h =
    let p = and_parts (is_space b) (list_all is_space bs) h in
    ap (λ c. words_of (xs ++ c ∷ bs)) (is_32 b p.0) ∙ words_cut xs bs ∙ ap (λ ws. words_of xs ++ ws) (no_words bs p.1) ∙ append-nil (words_of xs)

-- what stands behind a text is parted from its words
abbrev Closed : List ℕ → Type 0
Closed front = (xs : List ℕ) → words_of (front ++ xs) ≡ words_of front ++ words_of xs

closed_spaces : (sp : List ℕ) → list_all is_space sp ≡ true → Closed sp
closed_spaces sp h xs = spaces_before sp xs h ∙ ap (λ ws. ws ++ words_of xs) (sym (no_words sp h))

closed_behind : (front sp : List ℕ) → list_all is_space sp ≡ true → 1 ≤ length sp → Closed (front ++ sp)
closed_behind front [] h some xs = absurd (omega arith)
closed_behind front (b ∷ bs) h some xs =
    let p = and_parts (is_space b) (list_all is_space bs) h in
    ap words_of (append_assoc front (b ∷ bs) xs)
    ∙ ap (λ c. words_of (front ++ c ∷ (bs ++ xs))) (is_32 b p.0)
    ∙ words_cut front (bs ++ xs)
    ∙ ap (λ ws. words_of front ++ ws) (spaces_before bs xs p.1)
    ∙ ap (λ ws. ws ++ words_of xs) (sym (spaces_behind front (b ∷ bs) h))

-- bytes without a space are one word
not_true : (b : Bool) → not b ≡ true → b ≡ false
not_true true h = absurd cc
not_true false h = refl

unparted : (w : List ℕ) → has_none 32 w ≡ true → parts_in w ≡ w ∷ []
unparted [] h = refl
unparted (c ∷ cs) h =
    let p = and_parts (not (is_space c)) (has_none 32 cs) h in
    slice_split-cons_no is_space c cs (not_true (is_space c) p.0) ∙ ap (onto_first c) (unparted cs p.1)

is_some_word : (w : List ℕ) → 1 ≤ length w → is_word w ≡ true
is_some_word w some = let e : (length w == 0) ≡ false = grind (arith, nat_tests) in ap not e

one_word : (w : List ℕ) → has_none 32 w ≡ true → 1 ≤ length w → words_of w ≡ w ∷ []
one_word w h some = let parts = unparted w h in let word = is_some_word w some in rw (parts, word) refl

-- a word, and what is parted from it
word_first : (w behind : List ℕ) → has_none 32 w ≡ true → 1 ≤ length w → (0 < length behind → get_or behind 0 0 ≡ 32) → words_of (w ++ behind) ≡ w ∷ words_of behind
word_first w [] h some ended = ap words_of (append-nil w) ∙ one_word w h some
word_first w (b ∷ bs) h some ended =
    let space : b ≡ 32 = ended (omega arith) in
    ap (λ c. words_of (w ++ c ∷ bs)) space ∙ words_cut w bs ∙ ap (λ ws. ws ++ words_of bs) (one_word w h some) ∙ ap (λ ws. w ∷ ws) (sym (words_behind bs)) ∙ ap (λ c. w ∷ words_of (c ∷ bs)) (sym space)

-- where a walk over the words of a line stands: so many words are before start, and before end, and what is between them is spaces
pub record Stands (line : List ℕ) (end start before : ℕ) : Type 0 where
  pub ordered : end ≤ start
  pub inside : start ≤ length line
  pub count : length (words_of (take start line)) ≡ before
  pub same : words_of (take end line) ≡ words_of (take start line)
  pub behind : words_of (drop end line) ≡ words_of (drop start line)
  pub closed : start < length line → Closed (take start line)
  pub other : start < length line → get_or line start 0 ≢ 32

-- a text begins with so many spaces
pub record Spaced (text : List ℕ) (n : ℕ) : Type 0 where
  pub within : n ≤ length text
  pub spaces : list_all is_space (take n text) ≡ true
  pub ended : n < length text → get_or text n 0 ≢ 32

-- a text begins with so many bytes that are no spaces
pub record Lettered (text : List ℕ) (n : ℕ) : Type 0 where
  pub within : n ≤ length text
  pub letters : has_none 32 (take n text) ≡ true
  pub ended : n < length text → get_or text n 0 ≡ 32

pub begun : (line : List ℕ) (n : ℕ) → Spaced line n → Stands line 0 n 0
begun line n s =
    let none : words_of (take n line) ≡ [] = no_words (take n line) s.spaces in
    record {
      ordered = omega arith;
      inside = s.within;
      count = ap length none;
      same = sym none;
      behind = ap words_of (sym (take-append-drop n line)) ∙ spaces_before (take n line) (drop n line) s.spaces;
      closed = λ lt. closed_spaces (take n line) s.spaces;
      other = s.ended;
    }

-- a word has a byte, since no space stands where it begins
some_letters : (line : List ℕ) (start n : ℕ) → start < length line → get_or line start 0 ≢ 32 → Lettered (drop start line) n → 1 ≤ n
some_letters line start zero lt other l =
    let some : 0 < length (drop start line) = omega (arith, length-drop start line) in
    absurd (other (ap (λ k. get_or line k 0) (omega arith) ∙ sym (get_or-drop start line 0 0) ∙ l.ended some))
some_letters line start (suc n) lt other l = omega arith

-- a space stands behind a word, unless the line ends there
some_spaces : (line : List ℕ) (start n m : ℕ) → start + n + m < length line → Lettered (drop start line) n → Spaced (drop (start + n) line) m → 1 ≤ m
some_spaces line start n zero lt l p =
    let space : get_or line (start + n) 0 ≡ 32 = sym (get_or-drop start line n 0) ∙ l.ended (omega (arith, length-drop start line)) in
    let here : get_or (drop (start + n) line) 0 0 ≡ 32 = get_or-drop (start + n) line 0 0 ∙ ap (λ k. get_or line k 0) (omega arith) ∙ space in
    absurd (p.ended (omega (arith, length-drop (start + n) line)) here)
some_spaces line start n (suc m) lt l p = omega arith

drop_on : (m n : ℕ) (xs : List ℕ) → drop m (drop n xs) ≡ drop (n + m) xs
drop_on m zero xs = ap (λ k. drop k xs) (omega arith)
drop_on m (suc n) [] = drop-nil m ∙ sym (drop-nil (suc n + m))
drop_on m (suc n) (x ∷ xs) = drop_on m n xs ∙ ap (λ k. drop k (x ∷ xs)) next
  where
    next : suc (n + m) ≡ suc n + m
    next = omega arith

-- the next word, and the spaces behind it
pub went_on : (line : List ℕ) (end start before n m : ℕ) → Stands line end start before → start < length line → Lettered (drop start line) n → Spaced (drop (start + n) line) m
    → Stands line (start + n) (start + n + m) (before + 1)
went_on line end start before n m s lt l p =
    let some : 1 ≤ n = some_letters line start n lt (s.other lt) l in
    let len = length-drop start line in
    let fits : start + n ≤ length line = omega (arith, len, l.within) in
    let len_behind = length-drop (start + n) line in
    let word : words_of (take n (drop start line)) ≡ take n (drop start line) ∷ [] = one_word (take n (drop start line)) l.letters (omega (arith, length-take-le n (drop start line) l.within)) in
    let words : words_of (take (start + n) line) ≡ words_of (take start line) ++ take n (drop start line) ∷ [] =
    ap words_of (take-add start n line) ∙ s.closed lt (take n (drop start line)) ∙ ap (λ ws. words_of (take start line) ++ ws) word in
    let with_spaces : take (start + n + m) line ≡ take (start + n) line ++ take m (drop (start + n) line) = take-add (start + n) m line in
    let kept : words_of (take (start + n + m) line) ≡ words_of (take (start + n) line) = ap words_of with_spaces ∙ spaces_behind (take (start + n) line) (take m (drop (start + n) line)) p.spaces in
    record {
      ordered = omega arith;
      inside = omega (arith, len_behind, p.within);
      count = ap length kept ∙ ap length words ∙ length-append (words_of (take start line)) (take n (drop start line) ∷ []) ∙ ap (λ k. k + 1) s.count;
      same = sym kept;
      behind = ap words_of (sym (take-append-drop m (drop (start + n) line))) ∙ spaces_before (take m (drop (start + n) line)) (drop m (drop (start + n) line)) p.spaces ∙ ap words_of (drop_on m (start + n) line);
      closed = λ lt_end. subst Closed (sym with_spaces) (closed_behind (take (start + n) line) (take m (drop (start + n) line)) p.spaces (omega (arith, length-take-le m (drop (start + n) line) p.within, some_spaces line start n m lt_end l p)));
      other = λ lt_end e. p.ended (omega (arith, len_behind)) (get_or-drop (start + n) line m 0 ∙ e);
    }

below : (a b : ℕ) → a < b → nat_lt a b ≡ true
below a b lt = grind (arith, nat_tests)

-- the word that the walk stood at is marked
pub word_marked : (line : List ℕ) (end start before place n : ℕ) (m : Marked) → Stands line end start before → start < length line → before ≤ place → place ≤ before → Lettered (drop start line) n → IsCut line start n m → Marks line place m
word_marked line end start before place n m s lt low high l c =
    let some : 1 ≤ n = some_letters line start n lt (s.other lt) l in
    let w : List ℕ = take n (drop start line) in
    let behind : List ℕ = drop n (drop start line) in
    let ended : 0 < length behind → get_or behind 0 0 ≡ 32 = λ more. get_or-drop n (drop start line) 0 0 ∙ ap (λ k. get_or (drop start line) k 0) (omega arith) ∙ l.ended (omega (arith, length-drop n (drop start line))) in
    let first : words_of (drop start line) ≡ w ∷ words_of behind =
    ap words_of (sym (take-append-drop n (drop start line))) ∙ word_first w behind l.letters (omega (arith, length-take-le n (drop start line) l.within)) ended in
    let words : words_of line ≡ words_of (take start line) ++ w ∷ words_of behind = ap words_of (sym (take-append-drop start line)) ∙ s.closed lt (drop start line) ∙ ap (λ ws. words_of (take start line) ++ ws) first in
    let here : length (words_of (take start line)) ≡ place = s.count ∙ omega arith in
    let count : length (words_of line) ≡ place + length (w ∷ words_of behind) = ap length words ∙ length-append (words_of (take start line)) (w ∷ words_of behind) ∙ ap (λ k. k + length (w ∷ words_of behind)) here in
    let is : nat_lt place (length (words_of line)) ≡ true = below place (length (words_of line)) (omega (arith, count)) in
    let marked : MarksWord line place m = record { whole = c.whole; before = ap (λ xs. length (words_of xs)) c.front ∙ here; word = rw (c.front, c.word, c.behind) words } in
    subst (λ b. MarksIf b line place m) (sym is) marked
