-- A list of a known length is the list of its elements.
use Rattle.std.proofs.Common.{◌≡◌, length, List, [], ◌∷◌, get_or, refl, arith, drop, ◌≤◌}

pub two_places : {A : Type 0} (d : A) (xs : List A) → length xs ≡ 2 → xs ≡ get_or xs 0 d ∷ get_or xs 1 d ∷ []
two_places d [] h = absurd (omega arith)
two_places d (a ∷ []) h = absurd (omega arith)
two_places d (a ∷ b ∷ []) h = refl
two_places d (a ∷ b ∷ x ∷ xs) h = absurd (omega arith)

pub three_places : {A : Type 0} (d : A) (xs : List A) → length xs ≡ 3 → xs ≡ get_or xs 0 d ∷ get_or xs 1 d ∷ get_or xs 2 d ∷ []
three_places d [] h = absurd (omega arith)
three_places d (a ∷ []) h = absurd (omega arith)
three_places d (a ∷ b ∷ []) h = absurd (omega arith)
three_places d (a ∷ b ∷ c ∷ []) h = refl
three_places d (a ∷ b ∷ c ∷ x ∷ xs) h = absurd (omega arith)

pub four_places : {A : Type 0} (d : A) (xs : List A) → length xs ≡ 4 → xs ≡ get_or xs 0 d ∷ get_or xs 1 d ∷ get_or xs 2 d ∷ get_or xs 3 d ∷ []
four_places d [] h = absurd (omega arith)
four_places d (a ∷ []) h = absurd (omega arith)
four_places d (a ∷ b ∷ []) h = absurd (omega arith)
four_places d (a ∷ b ∷ c ∷ []) h = absurd (omega arith)
four_places d (a ∷ b ∷ c ∷ e ∷ []) h = refl
four_places d (a ∷ b ∷ c ∷ e ∷ x ∷ xs) h = absurd (omega arith)

pub three_first : {A : Type 0} (d : A) (xs : List A) → 3 ≤ length xs → xs ≡ get_or xs 0 d ∷ get_or xs 1 d ∷ get_or xs 2 d ∷ drop 3 xs
three_first d [] h = absurd (omega arith)
three_first d (a ∷ []) h = absurd (omega arith)
three_first d (a ∷ b ∷ []) h = absurd (omega arith)
three_first d (a ∷ b ∷ c ∷ xs) h = refl
