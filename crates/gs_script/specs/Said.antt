-- The lines of a script that say something, with their numbers.
use Rattle.std.specs.Prelude.{Bool, true, false, not, ◌&&◌, ℕ, ◌+◌, ◌≡◌, List, [], ◌∷◌, ◌++◌, length, nat_lt, if◌then◌else◌, Result, Ok, Err}
use Rattle.gs_core.specs.declared.event.Event.{Event}
use Rattle.gs_script.specs.declared.fault.ScriptFault.{ScriptFault}
use Rattle.gs_script.specs.declared.script.TheConstants.{MOST_BYTES}
use Rattle.gs_script.specs.Words.{is_text, lines_of, words_of}
use Rattle.gs_script.specs.Naming.{Naming}
use Rattle.gs_script.specs.Rows.{event_of}
use Rattle.gs_script.specs.Script.{Script, is_passed_over}

-- whether a line says something: it is text, and not passed over
abbrev pub says_something : List ℕ → Bool
says_something line = is_text line && not (is_passed_over (words_of line))

-- a line with its number, if that holds
abbrev pub line_if : Bool → ℕ → List ℕ → List (ℕ × List ℕ)
line_if true n line = (n, line) ∷ []
line_if false n line = []

-- the lines that say something, of lines numbered from n on
abbrev pub said : ℕ → List (List ℕ) → List (ℕ × List ℕ)
said n [] = []
said n (line ∷ lines) = line_if (says_something line) n line ++ said (n + 1) lines

-- those of a script's bytes, the header's first: none, if there are too many bytes
abbrev pub said_in : List ℕ → List (ℕ × List ℕ)
said_in bytes = if nat_lt MOST_BYTES (length bytes) then [] else said 1 (lines_of bytes)

-- each of these lines says the event beside it
abbrev pub SayEach : {A : Type 0} → Naming A → List (ℕ × List ℕ) → List (Event A) → Type 0
SayEach naming [] [] = Unit {0}
SayEach naming (x ∷ xs) (e ∷ es) = (event_of naming (words_of x.1) ≡ Ok e) × SayEach naming xs es
SayEach naming [] (e ∷ es) = ⊥
SayEach naming (x ∷ xs) [] = ⊥

-- the first line is the header's, and each of the others says an event of the script
abbrev pub SayScript : {A : Type 0} → Naming A → List (ℕ × List ℕ) → Result (Script A) ScriptFault → Type 0
SayScript naming [] (Ok s) = ⊥
SayScript naming (x ∷ xs) (Ok s) = SayEach naming xs s.events
SayScript naming xs (Err f) = Unit {0}
