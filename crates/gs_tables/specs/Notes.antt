-- What is noted of the events of a script, for its tables.
use Rattle.std.specs.Prelude.{◌≡◌, ℕ, List, [], ◌∷◌, ◌++◌, false, Result, Ok}
use Rattle.std.specs.List.{flat_map, list_any}
use Rattle.gs_kernel.specs.declared.landing.Landing.{Landing}
use Rattle.gs_replies.specs.declared.reply.Reply.{Reply}
use Rattle.gs_core.specs.declared.event.Event.{Event}
use Rattle.gs_core.specs.Machine.{Plan, State, Step, planned}
use Rattle.gs_core.specs.Safe.{Safe, IsFaithful}
use Rattle.gs_core.specs.Short.{wants_memory}
use Rattle.gs_script.specs.declared.fault.ScriptFault.{ScriptFault}
use Rattle.gs_script.specs.Unread.{with_front}
use Rattle.gs_report.specs.Counts.{landings_of}
use Rattle.gs_trace.specs.Noted.{Noted, noted_after}

-- a line of a script, with its number
abbrev pub Line : Type 0
Line = ℕ × List ℕ

-- events of these lines have these replies, each a step of the machine that the one before left, and this is noted of the lines
abbrev pub Notes : {A : Type 0} → (A → Plan) → Noted → State → List (Event A) → List Reply → List Line → State → Noted → Type 0
Notes plans n m [] [] xs end last = (end ≡ m) × (last ≡ n)
Notes plans n m (e ∷ es) (r ∷ rs) (x ∷ xs) end last =
    (next : State) × Step m (planned plans e) r next × Safe next × IsFaithful next × Notes plans (noted_after x.0 r next n) next es rs xs end last
Notes plans n m (e ∷ es) (r ∷ rs) [] end last = ⊥
Notes plans n m (e ∷ es) [] xs end last = ⊥
Notes plans n m [] (r ∷ rs) xs end last = ⊥

-- what became of slots, by replies
abbrev pub landings_in : List Reply → List Landing
landings_in rs = flat_map landings_of rs

-- what came of an event of a line was noted: it does not tell that memory ran out
pub record NotesCame (n : Noted) (ls : List Landing) (x : ℕ) (reply : Reply) (next : State) (noted : Noted) (landings : List Landing) : Type 0 where
  pub sufficed : list_any wants_memory (reply ∷ []) ≡ false
  pub lines : noted ≡ noted_after x reply next n
  pub landed : landings ≡ ls ++ landings_of reply

-- one event of a line happened: the reply does not tell that memory ran out, and it was noted
pub record NotesOne {A : Type 0} (plans : A → Plan) (n : Noted) (ls : List Landing) (m : State) (x : ℕ) (e : Event A) (next : State) (noted : Noted) (landings : List Landing) : Type 0 where
  pub reply : Reply
  pub step : Step m (planned plans e) reply next
  pub safe : Safe next
  pub faithful : IsFaithful next
  pub sufficed : list_any wants_memory (reply ∷ []) ≡ false
  pub lines : noted ≡ noted_after x reply next n
  pub landed : landings ≡ ls ++ landings_of reply

-- these events happened, each of its line, and further ones of further lines follow
pub record NotedSoFar {A : Type 0} (plans : A → Plan) (n : Noted) (m : State) (es : List (Event A)) (xs : List Line) (noted : Noted) (landings : List Landing) (now : State) : Type 0 where
  pub replies : List Reply
  pub leads : (left : List (Event A)) (others : List Line) (more : List Reply) (end : State) (last : Noted) → Notes plans noted now left more others end last → Notes plans n m (es ++ left) (replies ++ more) (xs ++ others) end last
  pub sufficed : list_any wants_memory replies ≡ false
  pub landed : landings ≡ landings_in replies

-- the same of the events of a script, and of the lines that say them, up to those that were not read
pub record NotedUpTo {A : Type 0} (plans : A → Plan) (n : Noted) (m : State) (script left : Result (List (Event A)) ScriptFault) (shown others : List Line) (noted : Noted) (landings : List Landing) (now : State) : Type 0 where
  pub events : List (Event A)
  pub lines : List Line
  pub is : script ≡ with_front events left
  pub says : shown ≡ lines ++ others
  pub so_far : NotedSoFar plans n m events lines noted landings now

-- all of them were, and memory sufficed
pub record IsNoted {A : Type 0} (plans : A → Plan) (n : Noted) (m : State) (script : Result (List (Event A)) ScriptFault) (says : List Line) (end : State) (last : Noted) (landings : List Landing) : Type 0 where
  pub events : List (Event A)
  pub is : script ≡ Ok events
  pub replies : List Reply
  pub notes : Notes plans n m events replies says end last
  pub sufficed : list_any wants_memory replies ≡ false
  pub landed : landings ≡ landings_in replies
