-- A text that goes to a writer piece by piece, as it grows.
use Rattle.std.specs.Prelude.{ℕ, List, ◌++◌, Option}
use Rattle.std.specs.Io.KnownBytes.{Appends}
use Rattle.gs_timeline.specs.Pieces.{Adds}

-- some bytes were written
abbrev pub Grows : Option (List ℕ) → Option (List ℕ) → Type 0
Grows before after = (sent : List ℕ) × Appends before after sent

-- what was written, and what a text has settled behind that, is what it had settled before, with what was added. That has these pieces
abbrev pub Sends : List (List ℕ) → Option (List ℕ) → Option (List ℕ) → List ℕ → List ℕ → Type 0
Sends pieces before after old new = (sent : List ℕ) × Appends before after sent × Adds pieces old (sent ++ new)
