-- Bytes as lines, lines as words, words as numbers.
use Rattle.std.specs.Prelude.{ℕ, List, Bool, not, ◌&&◌, ◌||◌, ◌==◌, nat_le, nat_lt, length, slice_index, filter}
use Rattle.std.specs.List.{slice_split, list_all}
use Rattle.std.specs.Str.{all_ascii_digits}
use Rattle.std.specs.Str.Parse.{digits_value}

-- the parts between newlines
abbrev pub lines_of : List ℕ → List (List ℕ)
lines_of bytes = slice_split (λ b. b == 10) bytes

-- whether each byte may stand in a line
abbrev pub is_text : List ℕ → Bool
is_text line = list_all (λ b. nat_le 32 b && nat_le b 126) line

abbrev pub is_word : List ℕ → Bool
is_word part = not (length part == 0)

-- the parts between spaces that are not empty
abbrev pub words_of : List ℕ → List (List ℕ)
words_of line = filter is_word (slice_split (λ b. b == 32) line)

-- no zero in front but 0 itself
abbrev pub is_shortest : List ℕ → Bool
is_shortest word = nat_lt (length word) 2 || not (slice_index word 0 == 48)

-- decimal digits, and no more of them than the number needs
abbrev pub is_number : List ℕ → Bool
is_number word = is_word word && all_ascii_digits word && is_shortest word

-- the number that the digits write
abbrev pub number : List ℕ → ℕ
number word = digits_value 10 word
