-- What has been explained so far.
use Rattle.std.specs.Prelude.{◌≡◌, ◌≤◌, Option, List, [], ◌∷◌, ◌++◌, ℕ, false, Result, Ok, length, take}
use Rattle.std.specs.List.{list_any}
use Rattle.gs_replies.specs.declared.reply.Reply.{Reply}
use Rattle.gs_core.specs.declared.event.Event.{Event}
use Rattle.gs_core.specs.Machine.{Plan, State, Step, planned}
use Rattle.gs_core.specs.Safe.{Safe, IsFaithful}
use Rattle.gs_core.specs.Short.{wants_memory}
use Rattle.gs_reasons.specs.declared.index.Index.{Index}
use Rattle.gs_reasons.specs.Kept.{HasHeard}
use Rattle.gs_script.specs.declared.fault.ScriptFault.{ScriptFault}
use Rattle.gs_script.specs.Unread.{with_front}
use Rattle.gs_trace.specs.Noted.{Noted, noted_after}
use Rattle.gs_explain.specs.Marked.{IsMarked}
use Rattle.gs_explain.specs.Explained.{Explains, Line, Show, row_of}
use Rattle.gs_explain.specs.Moment.{moment_with}

-- before an event there were so many entries, all of which an index heard, and so many transactions, of which it is marked which was stamped last for each CPU
pub record Stood (first stamped : ℕ) (index : Index) (marks : List (Option ℕ)) (next : State) : Type 0 where
  pub entries : first ≤ length next.history
  pub heard : HasHeard index (take first next.history)
  pub transactions : stamped ≤ length next.transactions
  pub marked : IsMarked marks (take stamped next.transactions)

-- what came of an event of a line was explained: it does not tell that memory ran out, the lines are noted, and an index heard what was added
pub record TellsOne (show : Show) (n : Noted) (first : ℕ) (x : Line) (e : Event (Unit {0})) (reply : Reply) (next : State) (noted : Noted) (index : Index) (marks : List (Option ℕ)) (old new : List ℕ) : Type 0 where
  pub sufficed : list_any wants_memory (reply ∷ []) ≡ false
  pub lines : noted ≡ noted_after x.0 reply next n
  pub heard : HasHeard index next.history
  pub marked : IsMarked marks next.transactions
  pub shown : new ≡ old ++ show x (moment_with (noted_after x.0 reply next n) e next) first reply

-- one event of a line happened and was explained: the reply does not tell that memory ran out, the lines are noted, and an index heard what was added
pub record ExplainsOne {A : Type 0} (plans : A → Plan) (show : Show) (n : Noted) (m : State) (x : Line) (e : Event A) (next : State) (noted : Noted) (index : Index) (marks : List (Option ℕ)) (old new : List ℕ) : Type 0 where
  pub reply : Reply
  pub step : Step m (planned plans e) reply next
  pub safe : Safe next
  pub faithful : IsFaithful next
  pub sufficed : list_any wants_memory (reply ∷ []) ≡ false
  pub lines : noted ≡ noted_after x.0 reply next n
  pub heard : HasHeard index next.history
  pub marked : IsMarked marks next.transactions
  pub shown : new ≡ old ++ row_of show n m x e reply next

-- these events were explained, each by its line, and further ones of further lines follow
pub record ToldSoFar {A : Type 0} (plans : A → Plan) (show : Show) (n : Noted) (m : State) (es : List (Event A)) (xs : List Line) (noted : Noted) (now : State) (out : List ℕ) : Type 0 where
  pub replies : List Reply
  pub leads : (left : List (Event A)) (others : List Line) (more : List Reply) (end : State) (rest : List ℕ) → Explains plans show noted now left more others end rest → Explains plans show n m (es ++ left) (replies ++ more) (xs ++ others) end (out ++ rest)
  pub sufficed : list_any wants_memory replies ≡ false

-- the same of the events of a script, and of the lines that say them, up to those that were not read
pub record ToldUpTo {A : Type 0} (plans : A → Plan) (show : Show) (n : Noted) (m : State) (script left : Result (List (Event A)) ScriptFault) (shown others : List Line) (noted : Noted) (now : State) (out : List ℕ) : Type 0 where
  pub events : List (Event A)
  pub lines : List Line
  pub is : script ≡ with_front events left
  pub says : shown ≡ lines ++ others
  pub told : ToldSoFar plans show n m events lines noted now out

-- all of them were, and memory sufficed
pub record IsToldAll {A : Type 0} (plans : A → Plan) (show : Show) (n : Noted) (m : State) (script : Result (List (Event A)) ScriptFault) (says : List Line) (end : State) (out : List ℕ) : Type 0 where
  pub events : List (Event A)
  pub is : script ≡ Ok events
  pub replies : List Reply
  pub explains : Explains plans show n m events replies says end out
  pub sufficed : list_any wants_memory replies ≡ false
