-- What a function returned, against what is read.
use denote.Ref.{Bor}
use Rattle.std.specs.Prelude.{ℕ, ◌≡◌, List, [], ◌∷◌, ◌++◌, Bool, not, ◌&&◌, ◌==◌, slice_index, Option, Some, None, Result, Ok, Err}
use Rattle.gs_core.specs.declared.event.Event.{Event}
use Rattle.gs_script.specs.declared.fault.Reason.{Reason as TheReason}
use Rattle.gs_script.specs.declared.fault.ScriptFault.{ScriptFault}
use Rattle.gs_script.specs.declared.script.Script.{Script as TheScript}
use Rattle.gs_script.specs.declared.script.ScriptError.{ScriptError}
use Rattle.gs_script.specs.declared.script.ScriptError.TheVariants as errors
use Rattle.gs_script.specs.declared.line.LineError.{LineError}
use Rattle.gs_script.specs.declared.line.LineError.TheVariants as lines
use Rattle.gs_script.specs.Words.{is_shortest}
use Rattle.gs_script.specs.Naming.{Naming}
use Rattle.gs_script.specs.Rows.{event_of}
use Rattle.gs_script.specs.Plain.{FirstLine, IsRead}
use Rattle.gs_script.specs.Script.{Script, says, fault}

-- a word that `parse` reads as a number is one, if this holds: a plus in front is no digit, though `parse` takes it
abbrev pub begins_plainly : List ℕ → Bool
begins_plainly word = not (slice_index word 0 == 43) && is_shortest word

-- a line is read so, unless memory ran out
abbrev pub Gives : {A : Type 0} → Result A LineError → Result A TheReason → Type 0
Gives (Ok x) read = read ≡ Ok x
Gives (Err (lines.Fault reason)) read = read ≡ Err reason
Gives (Err lines.OutOfMemory) read = Unit {0}

-- what is read has this fault, unless memory ran out
abbrev pub Faults : {A : Type 0} → ScriptError → Result A ScriptFault → Type 0
Faults (errors.Fault f) read = read ≡ Err f
Faults errors.OutOfMemory read = Unit {0}

-- a script is read so, whose value is seen by a view
abbrev pub GivesBy : {A B : Type 0} → (A → B) → Result A ScriptError → Result B ScriptFault → Type 0
GivesBy view (Ok x) read = read ≡ Ok (view x)
GivesBy view (Err e) read = Faults e read

abbrev pub seen : {A : Type 0} → TheScript A → Script A
seen s = record { config = s.config; events = s.events.items }

abbrev pub placed : ℕ → LineError → ScriptError
placed n (lines.Fault reason) = errors.Fault (fault n reason)
placed n lines.OutOfMemory = errors.OutOfMemory

-- events, and then one that a line says, if it says one
abbrev pub and_one : {A : Type 0} → List (Event A) → Option (Event A) → List (Event A)
and_one es None = es
and_one es (Some e) = es ++ e ∷ []

-- the first line of a text was read, with this left behind it, and what it says was added to the events
pub record Adds {A : Type 0} (naming : Naming A) (text : List ℕ) (left : Option (Bor (List ℕ))) (old new : List (Event A)) : Type 0 where
  pub said : Option (Event A)
  pub first : FirstLine (λ line. says (event_of naming) line ≡ Ok said) text left
  pub events : new ≡ and_one old said

-- what a line says was added to the events, if it says one
pub record AddsSaid {A : Type 0} (naming : Naming A) (line : List ℕ) (old new : List (Event A)) : Type 0 where
  pub said : Option (Event A)
  pub is : says (event_of naming) line ≡ Ok said
  pub events : new ≡ and_one old said

-- a line has this fault, unless memory ran out
abbrev pub IsUnsaid : {A : Type 0} → Naming A → LineError → List ℕ → Type 0
IsUnsaid {A} naming e line = Gives {A = Option (Event A)} (Err e) (says (event_of naming) line)

-- the same of an event that is read so
pub record AddsRead {A : Type 0} (read : List (List ℕ) → Result (Event A) TheReason) (text : List ℕ) (left : Option (Bor (List ℕ))) (old new : List (Event A)) : Type 0 where
  pub event : Event A
  pub first : FirstLine (IsRead read event) text left
  pub events : new ≡ old ++ event ∷ []

abbrev pub AddsReadIf : {A : Type 0} → (List (List ℕ) → Result (Event A) TheReason) → List ℕ → List (Event A) → List (Event A) → Option (Option (Bor (List ℕ))) → Type 0
AddsReadIf read text old new None = new ≡ old
AddsReadIf read text old new (Some left) = AddsRead read text left old new

-- the same of any event, if something is left. If nothing is, nothing was added
abbrev pub AddsIf : {A : Type 0} → Naming A → List ℕ → List (Event A) → List (Event A) → Option (Option (Bor (List ℕ))) → Type 0
AddsIf naming text old new None = new ≡ old
AddsIf naming text old new (Some left) = Adds naming text left old new

-- the first line of a text was not read
pub record Fails {A : Type 0} (naming : Naming A) (text : List ℕ) (e : LineError) : Type 0 where
  pub left : Option (Bor (List ℕ))
  pub first : FirstLine (λ line. Gives {A = Option (Event A)} (Err e) (says (event_of naming) line)) text left
