-- A script that is run line by line: what a line does.
use Rattle.std.specs.Prelude.{◌≡◌, ℕ, ◌+◌, nat_lt, false, length, List, Option, None, Some, Result, Ok, Err, if◌then◌else◌}
use Rattle.gs_replies.specs.declared.config.Config.{Config}
use Rattle.gs_replies.specs.declared.reply.Reply.{Reply}
use Rattle.gs_core.specs.declared.event.Event.{Event}
use Rattle.gs_core.specs.Machine.{Plan, StateOf, Step, planned, planning, start}
use Rattle.gs_core.specs.Policies.{policy_after}
use Rattle.gs_core.specs.Safe.{Safe, IsFaithful}
use Rattle.gs_core.specs.Short.{wants_memory}
use Rattle.gs_script.specs.declared.fault.Reason.{Reason}
use Rattle.gs_script.specs.declared.fault.Reason.TheVariants.{TooLong}
use Rattle.gs_script.specs.declared.line.LineError.{LineError}
use Rattle.gs_script.specs.declared.line.LineError.TheVariants as lines
use Rattle.gs_script.specs.declared.script.TheConstants.{MOST_BYTES}
use Rattle.gs_script.specs.Naming.{Naming}
use Rattle.gs_script.specs.Header.{header_of}
use Rattle.gs_script.specs.Rows.{event_of}
use Rattle.gs_script.specs.Script.{fault, says}
use Rattle.gs_session.specs.declared.heard.Heard.{Heard}
use Rattle.gs_session.specs.declared.heard.Heard.TheVariants as heards

-- how many lines were heard, and the machine, if a header opened one
pub record Session (A : Type 0) : Type 0 where
  pub count : ℕ
  pub opened : Option (StateOf A)

-- before the first line
abbrev pub unheard : {A : Type 0} → Session A
unheard = record { count = 0; opened = None }

-- what a line says to a session, if it is read so. One that is longer than a script may be is not read
abbrev pub read_within : {A : Type 0} → (List (List ℕ) → Result A Reason) → List ℕ → Result (Option A) Reason
read_within read line = if nat_lt MOST_BYTES (length line) then Err TooLong else says read line

-- a line before the header does this, by its number and what it says there: only a header changes anything, and opens the machine
abbrev pub HearsHeader : {A : Type 0} → ℕ → Result (Option (Config A)) Reason → Heard → Option (StateOf A) → Type 0
HearsHeader n (Err reason) h after = (h ≡ heards.Fault (fault n reason)) × (after ≡ None)
HearsHeader n (Ok None) h after = (h ≡ heards.Nothing) × (after ≡ None)
HearsHeader n (Ok (Some c)) h after = (h ≡ heards.Opened) × (after ≡ Some (start c))

-- what is heard of a line of this number that was not read
abbrev pub IsUnread : ℕ → LineError → Heard → Type 0
IsUnread n (lines.Fault reason) h = h ≡ heards.Fault (fault n reason)
IsUnread n lines.OutOfMemory h = ⊥

-- an event happens: its reply does not tell that memory ran out. Each policy plans so
pub record Steps {A : Type 0} (plans : A → Plan) (m : StateOf A) (e : Event A) (h : Heard) (after : Option (StateOf A)) : Type 0 where
  pub reply : Reply
  pub next : StateOf A
  pub replied : h ≡ heards.Stepped reply
  pub becomes : after ≡ Some next
  pub step : Step (planning plans m) (planned plans e) reply (planning plans next)
  pub safe : Safe (planning plans next)
  pub faithful : IsFaithful (planning plans next)
  pub policy : next.policy ≡ policy_after e reply m.policy
  pub sufficed : wants_memory reply ≡ false

-- a line behind the header does this, by its number and what it says: only an event changes anything
abbrev pub HearsEvent : {A : Type 0} → (A → Plan) → ℕ → StateOf A → Result (Option (Event A)) Reason → Heard → Option (StateOf A) → Type 0
HearsEvent plans n m (Err reason) h after = (h ≡ heards.Fault (fault n reason)) × (after ≡ Some m)
HearsEvent plans n m (Ok None) h after = (h ≡ heards.Nothing) × (after ≡ Some m)
HearsEvent plans n m (Ok (Some e)) h after = Steps plans m e h after

-- a line of this number does this to the machine, if one is there
abbrev pub HearsAt : {A : Type 0} → Naming A → (A → Plan) → ℕ → List ℕ → Option (StateOf A) → Heard → Option (StateOf A) → Type 0
HearsAt naming plans n line None h after = HearsHeader n (read_within (header_of naming) line) h after
HearsAt naming plans n line (Some m) h after = HearsEvent plans n m (read_within (event_of naming) line) h after

-- a session hears a line, and becomes another: lines are counted from 1, whatever they say. Policies are named so, and plan so
pub record Hears {A : Type 0} (naming : Naming A) (plans : A → Plan) (before : Session A) (line : List ℕ) (h : Heard) (after : Session A) : Type 0 where
  pub counted : after.count ≡ before.count + 1
  pub does : HearsAt naming plans after.count line before.opened h after.opened
