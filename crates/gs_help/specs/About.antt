-- The rows that are about a word.
use denote.Ref.{Bor}
use Rattle.std.specs.Prelude.{ℕ, Bool, List, [], bytes_eq, flat_map, if◌then◌else◌, map}
use Rattle.std.specs.Char.{to_ascii_lowercase}
use Rattle.std.specs.List.{list_any}
use Rattle.gs_help.specs.declared.about.Row.{Row}

-- whether two words are the same, in capitals or not
abbrev pub is_same : List ℕ → List ℕ → Bool
is_same word other = bytes_eq (map to_ascii_lowercase other) (map to_ascii_lowercase word)

-- whether a row is about a word
abbrev pub is_about : List ℕ → Row → Bool
is_about word row = list_any (λ (other : Bor (List ℕ)). is_same word other.now) row.words.now

-- what a row says of a word: nothing, if it is about others
abbrev pub said_of : List ℕ → Row → List ℕ
said_of word row = if is_about word row then row.text.now else []

-- what rows say of a word
abbrev pub text_about : List ℕ → List Row → List ℕ
text_about word rows = flat_map (said_of word) rows

-- the words that rows are about
abbrev pub words_of : List Row → List (Bor (List ℕ))
words_of rows = flat_map (λ row. row.words.now) rows
