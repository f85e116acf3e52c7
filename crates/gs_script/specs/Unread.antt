-- A script, read line by line.
use denote.Ref.{Bor}
use Rattle.std.specs.Prelude.{ℕ, ◌≡◌, ◌<◌, ⊤, Option, List, [], ◌∷◌, ◌++◌, true, length, Result, Ok, Err}
use Rattle.gs_replies.specs.declared.config.Config.{Config}
use Rattle.gs_core.specs.declared.event.Event.{Event}
use Rattle.gs_script.specs.declared.fault.ScriptFault.{ScriptFault}
use Rattle.gs_script.specs.declared.reading.SaidLine.{SaidLine}
use Rattle.gs_script.specs.Words.{is_text}
use Rattle.gs_script.specs.Naming.{Naming}
use Rattle.gs_script.specs.Plain.{FirstLine}
use Rattle.gs_script.specs.Script.{Script, events_of, script_of, with_config, with_event}
use Rattle.gs_script.specs.Said.{said, said_in}

-- the lines that were not read, and the number of the first
pub record Unread : Type 0 where
  pub number : ℕ
  pub lines : List (List ℕ)

-- the events that they say, or their first fault
abbrev pub events_unread : {A : Type 0} → Naming A → Unread → Result (List (Event A)) ScriptFault
events_unread naming u = events_of naming u.number u.lines

-- events, and then those that lines behind them say
abbrev pub with_front : {A : Type 0} → List (Event A) → Result (List (Event A)) ScriptFault → Result (List (Event A)) ScriptFault
with_front front (Ok es) = Ok (front ++ es)
with_front front (Err f) = Err f

-- those of them that say something
abbrev pub said_unread : Unread → List (ℕ × List ℕ)
said_unread u = said u.number u.lines

-- a line as it is shown
abbrev pub said_line : SaidLine → ℕ × List ℕ
said_line x = (x.number, x.bytes.now)

-- this is left behind the first line of a text
abbrev pub IsCut : List ℕ → Option (Bor (List ℕ)) → Type 0
IsCut text left = FirstLine (λ line. ⊤) text left

-- the next event was read, which this line says, and added
pub record ReadsNext {A : Type 0} (naming : Naming A) (old new : Unread) (before after : List (Event A)) (line : SaidLine) : Type 0 where
  pub event : Event A
  pub is : events_unread naming old ≡ with_event event (events_unread naming new)
  pub says : said_unread old ≡ said_line line ∷ said_unread new
  pub text : is_text line.bytes.now ≡ true
  pub fewer : length new.lines < length old.lines
  pub added : after ≡ before ++ event ∷ []

-- no event is left, so none was added
pub record ReadsNone {A : Type 0} (naming : Naming A) (old : Unread) (before after : List (Event A)) : Type 0 where
  pub is : events_unread naming old ≡ Ok []
  pub says : said_unread old ≡ []
  pub same : after ≡ before

-- the header of a script is this configuration, in the line of this number, and these lines stand behind it
pub record Opens {A : Type 0} (naming : Naming A) (script : Result (Script A) ScriptFault) (shown : List (ℕ × List ℕ)) (config : Config A) (header : ℕ) (behind : Unread) : Type 0 where
  pub line : List ℕ
  pub is : script ≡ with_config config (events_unread naming behind)
  pub says : shown ≡ (header, line) ∷ said_unread behind

abbrev pub IsOpened : {A : Type 0} → Naming A → List ℕ → Config A → ℕ → Unread → Type 0
IsOpened naming bytes config header behind = Opens naming (script_of naming bytes) (said_in bytes) config header behind
