-- Forms of lines, and the first fault of a line against them.
use Rattle.std.specs.Prelude.{ℕ, ◌%◌, List, [], ◌∷◌, ◌++◌, map, Bool, true, false, ◌&&◌, ◌==◌, nat_le, length, bytes_eq, flat_map, if◌then◌else◌, Option, Some, None, Result, Ok, Err}
use Rattle.std.specs.List.{list_any}
use Rattle.gs_layout.specs.Name.{is_name}
use Rattle.gs_script.specs.declared.fault.Reason.{Reason}
use Rattle.gs_script.specs.declared.fault.Reason.TheVariants.{BadWord, BadCount, BadNumber, BadName}
use Rattle.gs_script.specs.Words.{is_number, number}

-- what a word is to be: one of these words, a number from low to high, such a number that is a multiple of another, or a name
pub data Kind : Type 0 where
  OneOf : List (List ℕ) → Kind
  Number : ℕ → ℕ → Kind
  Multiple : ℕ → ℕ → ℕ → Kind
  Name : Kind

-- what the words of a line are to be, one after another
abbrev pub Form : Type 0
Form = List Kind

abbrev pub is_one_of : List ℕ → List (List ℕ) → Bool
is_one_of word words = list_any (bytes_eq word) words

abbrev pub is_number_in : ℕ → ℕ → List ℕ → Bool
is_number_in low high word = is_number word && nat_le low (number word) && nat_le (number word) high

abbrev pub is_of_kind : Kind → List ℕ → Bool
is_of_kind (OneOf words) word = is_one_of word words
is_of_kind (Number low high) word = is_number_in low high word
is_of_kind (Multiple step low high) word = is_number_in low high word && (number word % step == 0)
is_of_kind Name word = is_name word

-- what a word is that is not of its kind
abbrev pub fault_of : Kind → Reason
fault_of (OneOf words) = BadWord
fault_of (Number low high) = BadNumber
fault_of (Multiple step low high) = BadNumber
fault_of Name = BadName

-- what is left of a form if it takes the word
abbrev pub after_word : List ℕ → Form → List Form
after_word word [] = []
after_word word (kind ∷ form) = if is_of_kind kind word then form ∷ [] else []

-- what a word is that no form takes: the first form that wants a word says it
abbrev pub fault_at : List Form → Reason
fault_at [] = BadCount
fault_at ([] ∷ forms) = fault_at forms
fault_at ((kind ∷ form) ∷ forms) = fault_of kind

abbrev pub is_empty : {A : Type 0} → List A → Bool
is_empty [] = true
is_empty (x ∷ xs) = false

-- the first fault of the words, from the left, if these forms are still open
abbrev pub first_fault : List Form → List (List ℕ) → Option Reason
first_fault forms [] = if list_any is_empty forms then None else Some BadCount
first_fault forms (word ∷ words) =
    if is_empty (flat_map (after_word word) forms) then Some (fault_at forms) else first_fault (flat_map (after_word word) forms) words

-- whether some form has so many words
abbrev pub has_count : List Form → ℕ → Bool
has_count forms n = list_any (λ form. length form == n) forms

-- a count that no form has is the fault, before the words are
abbrev pub line_fault : List Form → List (List ℕ) → Option Reason
line_fault forms words = if has_count forms (length words) then first_fault forms words else Some BadCount

-- the forms, without and with a part in front of each
abbrev pub with_part : Form → List Form → List Form
with_part part forms = forms ++ map (λ form. part ++ form) forms

-- the fault, or else this
abbrev pub or_fault : {A : Type 0} → Option Reason → A → Result A Reason
or_fault None x = Ok x
or_fault (Some reason) x = Err reason

abbrev pub literal : List ℕ → Kind
literal word = OneOf (word ∷ [])
