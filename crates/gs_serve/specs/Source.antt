-- Lines, as a reader gives them.
use Rattle.std.specs.Prelude.{ℕ, ◌≡◌, ◌≢◌, List, [], ◌∷◌, ◌++◌, take, Bool, true, false, Option}
use Rattle.std.specs.Io.KnownBytes.{Consumes, IsAtEnd}
use Rattle.gs_script.specs.Words.{lines_of}
use Rattle.gs_serve.specs.declared.source.TheConstants.{MOST_KEPT}
use Rattle.gs_serve.specs.declared.source.Came.{Came}
use Rattle.gs_serve.specs.declared.source.Came.TheVariants.{Line, Last, Nothing}

-- a line has no newline
abbrev pub IsLine : List ℕ → Type 0
IsLine line = lines_of line ≡ line ∷ []

-- so much is kept of a line
abbrev pub kept_of : List ℕ → List ℕ
kept_of line = take MOST_KEPT line

-- bytes were taken of what was there: more of a line that has begun, and a newline behind it, if it ended
abbrev pub taken_of : List ℕ → Bool → List ℕ
taken_of line true = line ++ 10 ∷ []
taken_of line false = line

-- a line was begun, and goes on with these bytes, of which nothing is behind: this is kept of it
pub record GoesOn (before after : List ℕ) (ended : Bool) (had left : List ℕ) : Type 0 where
  pub more : List ℕ
  pub taken : had ≡ taken_of more ended ++ left
  pub is : IsLine more
  pub kept : after ≡ kept_of (before ++ more)
  pub whole : ended ≡ false → left ≡ []

-- what came of the bytes that were there
abbrev pub Comes : Came → Option (List ℕ) → Option (List ℕ) → List ℕ → Type 0
Comes Line had left kept = (line : List ℕ) × IsLine line × (kept ≡ kept_of line) × Consumes had left (line ++ 10 ∷ [])
Comes Last had left kept = (line : List ℕ) × IsLine line × (line ≢ []) × (kept ≡ kept_of line) × Consumes had left line × IsAtEnd left
Comes Nothing had left kept = Consumes had left [] × IsAtEnd left
