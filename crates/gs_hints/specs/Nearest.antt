-- Which of some words is nearest to another one.
use denote.Ref.{Bor}
use Rattle.std.specs.Prelude.{◌≡◌, ◌≤◌, ◌/◌, ℕ, max, nat_le, Bool, true, false, List, length, Option, None, Some}
use Rattle.std.specs.List.{All, Contains}
use Rattle.std.specs.Str.{chars}
use Rattle.strsim.specs.Edits.{osa_table}
use Rattle.gs_hints.specs.declared.near.Candidate.{Candidate}

-- how many edits lead from one word to another: a character more, fewer or another, or two neighbours exchanged
unfoldable pub distance : List ℕ → List ℕ → ℕ
distance word other = (osa_table (chars word) (chars other)).last_row (length (chars other))

-- how many edits a word may be away that was probably meant: one in three bytes, and one at least
abbrev pub most_edits : List ℕ → ℕ
most_edits word = max (length word) 3 / 3

abbrev pub is_near : List ℕ → List ℕ → Bool
is_near word other = nat_le (distance word other) (most_edits word)

-- a word of these is near, and none of them is nearer; or none of them is near
abbrev pub IsNearest : List ℕ → List (Bor (List ℕ)) → Option (Bor (List ℕ)) → Type 0
IsNearest word others None = All (λ other. is_near word other.now ≡ false) others
IsNearest word others (Some found) = Contains others found × (is_near word found.now ≡ true) × All (λ other. distance word found.now ≤ distance word other.now) others

-- the same of a candidate, whose edits are counted
abbrev pub IsBest : List ℕ → List (Bor (List ℕ)) → Option Candidate → Type 0
IsBest word others None = IsNearest word others None
IsBest word others (Some best) = (best.edits ≡ distance word best.word.now) × IsNearest word others (Some best.word)
