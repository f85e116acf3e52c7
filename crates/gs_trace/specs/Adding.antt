-- What the replies of a run were added to.
use Rattle.std.specs.Prelude.{◌≡◌, ℕ, List, ◌++◌, ◌∷◌, [], false, map, Result, Ok}
use Rattle.std.specs.List.{list_any}
use Rattle.gs_core.specs.declared.event.Event.{Event}
use Rattle.gs_replies.specs.declared.reply.Reply.{Reply}
use Rattle.gs_core.specs.Machine.{Plan, State, Step, planned}
use Rattle.gs_core.specs.Safe.{Safe, IsFaithful, Run}
use Rattle.gs_core.specs.Short.{wants_memory}
use Rattle.gs_journal.specs.History.{History}
use Rattle.gs_script.specs.declared.fault.ScriptFault.{ScriptFault}
use Rattle.gs_script.specs.Unread.{with_front}

-- the replies of a run of these events, from one machine on to another, were added. Memory sufficed, and the replies to further
-- events follow them
pub record AddedSoFar {T : Type 0} (Has : T → List Reply → Type 0) (m : State) (es : List (Event Plan)) (now : State) (sink : T) : Type 0 where
  pub replies : List Reply
  pub leads : (left : List (Event Plan)) (more : List Reply) (end : State) → Run now left more end → Run m (es ++ left) (replies ++ more) end
  pub sufficed : list_any wants_memory replies ≡ false
  pub has : Has sink replies

-- the same of the events of a script up to those that were not read
pub record AddedUpTo {A T : Type 0} (plans : A → Plan) (Has : T → List Reply → Type 0) (m : State) (script left : Result (List (Event A)) ScriptFault) (now : State) (sink : T) : Type 0 where
  pub events : List (Event A)
  pub is : script ≡ with_front events left
  pub added : AddedSoFar Has m (map (planned plans) events) now sink

-- one event, from one machine to the next: its reply does not tell that memory ran out, and was added behind those before
pub record AddsOne {T : Type 0} (Has : T → List Reply → Type 0) (m : State) (e : Event Plan) (next : State) (old new : T) : Type 0 where
  pub reply : Reply
  pub step : Step m e reply next
  pub safe : Safe next
  pub faithful : IsFaithful next
  pub sufficed : list_any wants_memory (reply ∷ []) ≡ false
  pub grows : (rs : List Reply) → Has old rs → Has new (rs ++ reply ∷ [])

-- these bytes show a run of a script's events, from one machine to another, in which memory sufficed
pub record ShowsRun {A : Type 0} (plans : A → Plan) (Shows : List Reply → ℕ → History → List ℕ → Type 0) (m : State) (script : Result (List (Event A)) ScriptFault) (end : State) (out : List ℕ) : Type 0 where
  pub events : List (Event A)
  pub is : script ≡ Ok events
  pub replies : List Reply
  pub run : Run m (map (planned plans) events) replies end
  pub sufficed : list_any wants_memory replies ≡ false
  pub shown : Shows replies end.settings.cpus end.history out
