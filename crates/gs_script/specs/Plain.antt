-- What stands first in a text.
use denote.Ref.{Bor}
use Rattle.std.specs.Prelude.{ℕ, ◌≡◌, List, [], ◌∷◌, ◌++◌, true, Option, None, Some, Result, Ok, codes, if◌then◌else◌}
use Rattle.gs_slots.specs.declared.flags.Flags.{Flags}
use Rattle.gs_script.specs.declared.fault.Reason.{Reason}
use Rattle.gs_script.specs.Words.{is_text, lines_of, words_of}

-- the lines of what is left of a text, if anything is
abbrev pub lines_left : Option (Bor (List ℕ)) → List (List ℕ)
lines_left None = []
lines_left (Some text) = lines_of text.now

-- the first bytes of a text are so, and this is the rest
pub record StartsWith (Is : List ℕ → Type 0) (text rest : List ℕ) : Type 0 where
  pub front : List ℕ
  pub cut : text ≡ front ++ rest
  pub is : Is front

-- the first line of a text is so, and this is left behind its newline, if it has one
pub record FirstLine (Is : List ℕ → Type 0) (text : List ℕ) (left : Option (Bor (List ℕ))) : Type 0 where
  pub line : List ℕ
  pub cut : lines_of text ≡ line ∷ lines_left left
  pub is : Is line

-- a line is text, and its words are read as this
pub record IsRead {A : Type 0} (read : List (List ℕ) → Result A Reason) (x : A) (line : List ℕ) : Type 0 where
  pub text : is_text line ≡ true
  pub words : read (words_of line) ≡ Ok x

-- how flags stand behind a stamp: a space and their word, or nothing if there is none
abbrev pub flags_text : Flags → List ℕ
flags_text f = if f.preempt then (if f.group then codes " pg" else codes " p") else (if f.group then codes " g" else [])
