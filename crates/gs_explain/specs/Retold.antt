-- A text with rows that are told between.
use Rattle.std.specs.Prelude.{◌≡◌, ◌<◌, ◌≤◌, true, false, ℕ, List, Option, [], ◌∷◌, ◌++◌, drop, length, take}
use Rattle.std.specs.Io.KnownBytes.{Appends}
use Rattle.std.specs.Str.{IsUtf8}
use Rattle.gs_script.specs.Words.{is_text}
use Rattle.gs_explain.specs.declared.piece.Piece.{Piece}
use Rattle.gs_sentences.specs.Parts.{part}
use Rattle.gs_explain.specs.Rows.{heading}
use Rattle.gs_sentences.specs.declared.tail.Tail.{Tail}
use Rattle.gs_sentences.specs.Tails.{Stands, is_part, tail_text}

-- a row
abbrev pub piece_text : Piece → List ℕ → List ℕ
piece_text p text = heading (p.number, p.line.now) ++ tail_text text p.tail

-- a text from a place on, with rows between
abbrev pub retold : ℕ → List Piece → List ℕ → List ℕ
retold done [] text = drop done text
retold done (p ∷ rest) text = part done p.at text ++ (piece_text p text ++ retold p.at rest text)

-- a row is told behind some of the first bytes of a text, so many, and what it tells of the text stands in them
pub record IsWithin (len : ℕ) (p : Piece) : Type 0 where
  pub at : p.at ≤ len
  pub line : is_text p.line.now ≡ true
  pub short : length p.line.now ≤ 96
  pub tail : Stands len p.tail

-- of these bytes a beginning was written, short of the whole
abbrev pub IsBegun : Option (List ℕ) → Option (List ℕ) → List ℕ → Type 0
IsBegun before after out = (n : ℕ) × (n < length out) × Appends before after (take n out)

-- bytes were added to a block, of which a beginning was written and the rest is left
abbrev pub Moves : Option (List ℕ) → List ℕ → List ℕ → Option (List ℕ) → List ℕ → Type 0
Moves before block bytes after left = (sent : List ℕ) × Appends before after sent × (block ++ bytes ≡ sent ++ left)

-- a beginning of these bytes was written, and the rest is left
abbrev pub Leads : Option (List ℕ) → List ℕ → Option (List ℕ) → List ℕ → Type 0
Leads before whole after rest = (sent : List ℕ) × Appends before after sent × (whole ≡ sent ++ rest)

-- a row ends in so many bytes that were told behind a script's line
pub record EndsIn (told : List ℕ) (len : ℕ) (row : List ℕ) : Type 0 where
  pub front : List ℕ
  pub is : row ≡ front ++ told
  pub size : len ≡ length told
  pub utf8 : IsUtf8 told
  pub short : length told ≤ 440

-- that is what was told last, unless that is a part of a text
abbrev pub Ends : Tail → ℕ → List ℕ → Type 0
Ends t len row = is_part t ≡ false → (text : List ℕ) → EndsIn (tail_text text t) len row
