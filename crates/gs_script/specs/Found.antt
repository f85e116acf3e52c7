-- The fault of a script, with the word at which it stands.
use Rattle.std.specs.Prelude.{◌≡◌, ◌-◌, ◌==◌, ℕ, suc, zero, not, nat_lt, Bool, true, false, List, [], ◌∷◌, ◌++◌, map, take, drop, get_or, length, Err}
use Rattle.std.specs.List.{list_all}
use Rattle.gs_script.specs.declared.found.Found.{Found}
use Rattle.gs_script.specs.declared.marked.Marked.{Marked}
use Rattle.gs_script.specs.declared.spot.Spot.{Spot as TheSpot}
use Rattle.gs_script.specs.declared.wanted.Wanted.{Wanted}
use Rattle.gs_script.specs.Words.{is_text, lines_of, words_of}
use Rattle.gs_script.specs.Naming.{Naming}
use Rattle.gs_script.specs.Script.{is_passed_over, script_of}
use Rattle.gs_script.specs.Spot.{Spot, event_spot, header_spot, kind_of}

-- a spot as it is returned
abbrev pub spot_of : TheSpot → Spot
spot_of s = record { place = s.place; wanted = map kind_of s.wanted.items }

-- whether a byte is none of these
abbrev pub has_none : ℕ → List ℕ → Bool
has_none byte bytes = list_all (λ b. not (b == byte)) bytes

-- the parts of a line, one behind another
abbrev pub whole : Marked → List ℕ
whole m = m.front.now ++ m.word.now ++ m.behind.now

-- a line is cut before so many bytes from start on, and behind them
pub record IsCut (line : List ℕ) (start count : ℕ) (m : Marked) : Type 0 where
  pub whole : whole m ≡ line
  pub front : m.front.now ≡ take start line
  pub word : m.word.now ≡ take count (drop start line)
  pub behind : m.behind.now ≡ drop count (drop start line)

-- the marked word has so many words of the line before it
pub record MarksWord (line : List ℕ) (place : ℕ) (m : Marked) : Type 0 where
  pub whole : whole m ≡ line
  pub before : length (words_of m.front.now) ≡ place
  pub word : words_of line ≡ words_of m.front.now ++ m.word.now ∷ words_of m.behind.now

-- nothing is marked, and the words of the line are all before it
pub record MarksEnd (line : List ℕ) (m : Marked) : Type 0 where
  pub whole : whole m ≡ line
  pub none : m.word.now ≡ []
  pub last : words_of line ≡ words_of m.front.now
  pub behind : words_of m.behind.now ≡ []

-- the word at a place of a line is marked, counted from 0, or the end if there is none
abbrev pub MarksIf : Bool → List ℕ → ℕ → Marked → Type 0
MarksIf true line place m = MarksWord line place m
MarksIf false line place m = MarksEnd line m

abbrev pub Marks : List ℕ → ℕ → Marked → Type 0
Marks line place m = MarksIf (nat_lt place (length (words_of line))) line place m

-- the first byte of a line is marked that may not stand in one
pub record MarksByte (line : List ℕ) (m : Marked) : Type 0 where
  pub whole : whole m ≡ line
  pub before : is_text m.front.now ≡ true
  pub one : length m.word.now ≡ 1
  pub bad : is_text m.word.now ≡ false

-- the line of a number, counted from 1
abbrev pub line_at : ℕ → List ℕ → List ℕ
line_at n bytes = get_or (lines_of bytes) (n - 1) []

-- a line is in the header's place if all lines before it are passed over
abbrev pub is_header : ℕ → List ℕ → Bool
is_header n bytes = list_all (λ line. is_passed_over (words_of line)) (take (n - 1) (lines_of bytes))

-- where the fault of a line's words stands, by whether the line is in the header's place
abbrev pub spot_at : {A : Type 0} → Naming A → Bool → List (List ℕ) → Spot
spot_at naming true words = header_spot naming words
spot_at naming false words = event_spot naming words

-- in a line of text the word at the fault's place is marked, and these kinds may stand there; in any other its first bad byte
abbrev pub MarksFault : {A : Type 0} → Naming A → Bool → Bool → List ℕ → Marked → List Wanted → Type 0
MarksFault naming true header line m wanted = Marks line (spot_at naming header (words_of line)).place m × (map kind_of wanted ≡ (spot_at naming header (words_of line)).wanted)
MarksFault naming false header line m wanted = MarksByte line m × (wanted ≡ [])

-- of the line of a number. Line 0 is the script itself, and nothing of it is marked
abbrev pub MarksLine : {A : Type 0} → Naming A → ℕ → List ℕ → Marked → List Wanted → Type 0
MarksLine naming zero bytes m wanted = (whole m ≡ []) × (wanted ≡ [])
MarksLine naming (suc n) bytes m wanted = MarksFault naming (is_text (line_at (suc n) bytes)) (is_header (suc n) bytes) (line_at (suc n) bytes) m wanted

-- the first fault of a script, and where it stands
pub record Finds {A : Type 0} (naming : Naming A) (bytes : List ℕ) (f : Found) : Type 0 where
  pub fault : script_of naming bytes ≡ Err f.fault
  pub marks : MarksLine naming f.fault.line bytes f.mark f.wanted.items
