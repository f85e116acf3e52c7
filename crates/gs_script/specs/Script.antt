-- Scripts: what their bytes say.
use Rattle.std.specs.Prelude.{ℕ, ◌+◌, nat_lt, List, [], ◌∷◌, Bool, true, not, ◌==◌, length, if◌then◌else◌, Option, Some, None, get_or, Result, Ok, Err}
use Rattle.gs_replies.specs.declared.config.Config.{Config}
use Rattle.gs_core.specs.declared.event.Event.{Event}
use Rattle.gs_script.specs.declared.fault.Reason.{Reason}
use Rattle.gs_script.specs.declared.fault.Reason.TheVariants.{TooLong, BadByte, NoHeader}
use Rattle.gs_script.specs.declared.fault.ScriptFault.{ScriptFault}
use Rattle.gs_script.specs.declared.script.TheConstants.{MOST_BYTES}
use Rattle.gs_script.specs.Words.{lines_of, words_of, is_text}
use Rattle.gs_script.specs.Naming.{Naming}
use Rattle.gs_script.specs.Rows.{event_of}
use Rattle.gs_script.specs.Header.{header_of}

-- what an enclave is opened with, and what happens in it
pub record Script (A : Type 0) : Type 0 where
  pub config : Config A
  pub events : List (Event A)

abbrev pub fault : ℕ → Reason → ScriptFault
fault n reason = record { line = n; reason = reason }

-- a line without words, or whose first word begins with '#', is passed over
abbrev pub is_passed_over : List (List ℕ) → Bool
is_passed_over [] = true
is_passed_over (first ∷ words) = get_or first 0 0 == 35

-- what a line says, by a reading of its words: a fault, nothing, or something
abbrev pub some_of : {A : Type 0} → Result A Reason → Result (Option A) Reason
some_of (Ok x) = Ok (Some x)
some_of (Err reason) = Err reason

abbrev pub says : {A : Type 0} → (List (List ℕ) → Result A Reason) → List ℕ → Result (Option A) Reason
says read line = if not (is_text line) then Err BadByte else (if is_passed_over (words_of line) then Ok None else some_of (read (words_of line)))

abbrev pub with_event : {A : Type 0} → Event A → Result (List (Event A)) ScriptFault → Result (List (Event A)) ScriptFault
with_event e (Ok es) = Ok (e ∷ es)
with_event e (Err f) = Err f

-- a line's fault comes before those of the lines behind it
abbrev pub before : {A : Type 0} → ℕ → Result (Option (Event A)) Reason → Result (List (Event A)) ScriptFault → Result (List (Event A)) ScriptFault
before n (Err reason) others = Err (fault n reason)
before n (Ok None) others = others
before n (Ok (Some e)) others = with_event e others

-- the events of lines, numbered from n on, or the first fault
abbrev pub events_of : {A : Type 0} → Naming A → ℕ → List (List ℕ) → Result (List (Event A)) ScriptFault
events_of naming n [] = Ok []
events_of naming n (line ∷ lines) = before n (says (event_of naming) line) (events_of naming (n + 1) lines)

abbrev pub with_config : {A : Type 0} → Config A → Result (List (Event A)) ScriptFault → Result (Script A) ScriptFault
with_config c (Ok es) = Ok (record { config = c; events = es })
with_config c (Err f) = Err f

-- what a line in the header's place makes of the script: later is what it is if the header stands in a later line
abbrev pub headed : {A : Type 0} → ℕ → Result (Option (Config A)) Reason → Result (Script A) ScriptFault → Result (List (Event A)) ScriptFault → Result (Script A) ScriptFault
headed n (Err reason) later events = Err (fault n reason)
headed n (Ok None) later events = later
headed n (Ok (Some c)) later events = with_config c events

-- the script of lines, numbered from n on: a script without a header has its fault at line 0
abbrev pub script_from : {A : Type 0} → Naming A → ℕ → List (List ℕ) → Result (Script A) ScriptFault
script_from naming n [] = Err (fault 0 NoHeader)
script_from naming n (line ∷ lines) = headed n (says (header_of naming) line) (script_from naming (n + 1) lines) (events_of naming (n + 1) lines)

-- what bytes say
abbrev pub script_of : {A : Type 0} → Naming A → List ℕ → Result (Script A) ScriptFault
script_of naming bytes = if nat_lt MOST_BYTES (length bytes) then Err (fault 0 TooLong) else script_from naming 1 (lines_of bytes)
