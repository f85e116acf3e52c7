-- Lists of words.
use Rattle.std.proofs.Common.{◌≡◌, ℕ, ◌≤◌, List, [], ◌∷◌, ◌++◌, sym, ap, ◌∙◌, subst, append_assoc, append-nil}
use Rattle.gs_board.specs.Words.{MayFollow, NeverFalls, StartsWith}

module _ {A : Type 0} where
  pub longer : (xs front : List A) (x : A) → StartsWith xs front → StartsWith (xs ++ x ∷ []) front
  longer xs front x s = (s.0 ++ x ∷ [], ap (λ l. l ++ x ∷ []) s.1 ∙ append_assoc front s.0 (x ∷ []))

  pub whole : (xs : List A) → StartsWith xs xs
  whole xs = ([], sym (append-nil xs))

  pub whole_at : (xs ys : List A) → ys ≡ xs → StartsWith ys xs
  whole_at xs ys e = subst (λ l. StartsWith l xs) (sym e) (whole xs)

rises_more : (front : List (ℕ × ℕ)) (a n : ℕ × ℕ) → NeverFalls (front ++ a ∷ []) → a.0 ≤ n.0 → NeverFalls ((front ++ a ∷ []) ++ n ∷ [])
rises_more [] a n h k = (k, tt)
rises_more (x ∷ []) a n h k = (h.0, (k, tt))
rises_more (x ∷ y ∷ ys) a n h k = (h.0, rises_more (y ∷ ys) a n h.1 k)

pub rises_on : (xs : List (ℕ × ℕ)) (n : ℕ × ℕ) → MayFollow xs n.0 → NeverFalls xs → NeverFalls (xs ++ n ∷ [])
rises_on xs n m h = subst (λ l. NeverFalls (l ++ n ∷ [])) (sym m.1.1) (rises_more m.1.0 m.0 n (subst NeverFalls m.1.1 h) m.2)
