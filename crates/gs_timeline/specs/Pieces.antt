-- The pieces that a text has.
use Rattle.std.specs.Prelude.{◌≡◌, ⊤, ℕ, List, [], ◌∷◌, ◌++◌}

-- a text that grows at its end: what is settled of it, and what was told behind that and is not settled yet
pub record Written : Type 0 where
  pub settled : List ℕ
  pub told : List ℕ

-- a text has these pieces, in order, each behind the one before
abbrev pub HasEach : List (List ℕ) → List ℕ → Type 0
HasEach [] text = ⊤
HasEach (piece ∷ pieces) text = (before : List ℕ) × (behind : List ℕ) × (text ≡ before ++ (piece ++ behind)) × HasEach pieces behind

-- what was added to a text has these pieces
abbrev pub Adds : List (List ℕ) → List ℕ → List ℕ → Type 0
Adds pieces old new = (more : List ℕ) × (new ≡ old ++ more) × HasEach pieces more
