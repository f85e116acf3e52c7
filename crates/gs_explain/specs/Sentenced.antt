-- A text of lines, and the same text with sentences among its lines.
use Rattle.std.specs.Prelude.{◌≡◌, ℕ, List, [], ◌∷◌, ◌++◌, codes}
use Rattle.gs_lines.specs.Lines.{line}

-- a line, or a sentence: that is a line which begins with two spaces
pub data Piece : Type 0 where
  Said : List ℕ → Piece
  Why : List ℕ → Piece

-- the lines without the sentences
abbrev pub plain_text : List Piece → List ℕ
plain_text [] = []
plain_text (Said text ∷ ps) = line text ++ plain_text ps
plain_text (Why text ∷ ps) = plain_text ps

-- and with them
abbrev pub whole_text : List Piece → List ℕ
whole_text [] = []
whole_text (Said text ∷ ps) = line text ++ whole_text ps
whole_text (Why text ∷ ps) = line (codes "  " ++ text) ++ whole_text ps

-- the second text is the first with sentences among its lines: without them it is the first
pub record AddsSentences (plain whole : List ℕ) : Type 0 where
  pub pieces : List Piece
  pub without : plain ≡ plain_text pieces
  pub with_them : whole ≡ whole_text pieces
