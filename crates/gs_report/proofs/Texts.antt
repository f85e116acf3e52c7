-- The lines of a text, and the last of them.
use Rattle.std.proofs.Common.{ℕ, ◌≡◌, ◌≤◌, ◌+◌, ◌-◌, List, [], ◌∷◌, ◌++◌, Bool, true, false, cond, length, drop, map, min, ◌==◌, ◌∙◌, sym, arith, length-append, length-drop, ap, Bor}
use Rattle.std.proofs.lemmas.List.{drop-append-le, drop-drop, drop-map, length-map}
use Rattle.std.specs.List.{slice_split, onto_first}
use Rattle.std.specs.Str.Lines.{lines, lines_of_parts}
use Rattle.circular_buffer.specs.Buffer.{keep_last}

module _ {X : Type 0} where
  -- to keep at most as many as there are keeps as many
  pub keep_last-min : (last most : ℕ) (xs : List X) → length xs ≤ most → keep_last (min last most) xs ≡ keep_last last xs
  keep_last-min last most xs h = ap (λ n. drop n xs) (omega arith)

  same_drop : (m n : ℕ) (xs : List X) → m ≡ n → drop m xs ≡ drop n xs
  same_drop m n xs e = ap (λ k. drop k xs) e

  -- the last of all are the last of those that were kept and one more
  pub keep_last-push : (n : ℕ) (xs : List X) (x : X) → keep_last n (keep_last n xs ++ x ∷ []) ≡ keep_last n (xs ++ x ∷ [])
  keep_last-push n xs x =
      let m = length xs - n in
      let whole = xs ++ x ∷ [] in
      let kept : keep_last n xs ++ x ∷ [] ≡ drop m whole = sym (drop-append-le m xs (x ∷ []) (omega arith)) in
      ap (keep_last n) kept ∙ drop-drop (length (drop m whole) - n) m whole
      ∙ same_drop (m + (length (drop m whole) - n)) (length whole - n) whole (simp (length-drop, length-append) (omega arith))

-- the last of what is read from each are what is read from the last
pub keep_last-map : {X Y : Type 0} (f : X → Y) (n : ℕ) (xs : List X) → map f (keep_last n xs) ≡ keep_last n (map f xs)
keep_last-map f n xs = sym (drop-map f (length xs - n) xs) ∙ ap (λ k. drop (k - n) (map f xs)) (sym (length-map xs f))

at_most_one : (b : Bool) (part : List ℕ) → length (cond b [] (part ∷ [])) ≤ 1
at_most_one true part = omega arith
at_most_one false part = omega arith

-- a text has no more lines than bytes
longer_part : (x : ℕ) (parts : List (List ℕ)) → length (lines_of_parts (onto_first x parts)) ≤ length (lines_of_parts parts) + 1
longer_part x [] = omega arith
longer_part x (part ∷ []) = omega (arith, at_most_one (length (x ∷ part) == 0) (x ∷ part))
longer_part x (part ∷ next ∷ parts) = omega arith

one_more_part : (parts : List (List ℕ)) → length (lines_of_parts ([] ∷ parts)) ≤ length (lines_of_parts parts) + 1
one_more_part [] = omega arith
one_more_part (part ∷ parts) = omega arith

cut_or_not : (b : Bool) (x : ℕ) (parts : List (List ℕ)) → length (lines_of_parts (cond b ([] ∷ parts) (onto_first x parts))) ≤ length (lines_of_parts parts) + 1
cut_or_not true x parts = one_more_part parts
cut_or_not false x parts = longer_part x parts

pub lines-le-length : (bs : List ℕ) → length (lines bs) ≤ length bs
lines-le-length [] = omega arith
lines-le-length (b ∷ bs) = omega (arith, cut_or_not (b == 10) b (slice_split (λ c. c == 10) bs), lines-le-length bs)

-- what was kept of the lines of a text, if all of them came
pub last_lines_kept : (last most : ℕ) (text : List ℕ) (came : List (Bor (List ℕ))) → most ≡ min last (length text) → map (λ line. line.now) came ≡ lines text → map (λ line. line.now) (keep_last most came) ≡ keep_last last (lines text)
last_lines_kept last most text came e h =
    keep_last-map (λ (line : Bor (List ℕ)). line.now) most came ∙ ap (keep_last most) h ∙ ap (λ n. keep_last n (lines text)) e ∙ keep_last-min last (length text) (lines text) (lines-le-length text)
