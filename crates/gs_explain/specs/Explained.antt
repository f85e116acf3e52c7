-- A script, explained.
use Rattle.std.specs.Prelude.{◌≡◌, ℕ, List, [], ◌∷◌, ◌++◌, false, length}
use Rattle.std.specs.List.{list_any}
use Rattle.gs_replies.specs.declared.reply.Reply.{Reply}
use Rattle.gs_core.specs.declared.event.Event.{Event}
use Rattle.gs_core.specs.Machine.{Plan, State, Step, planned, planning, start}
use Rattle.gs_core.specs.Safe.{Safe, IsFaithful}
use Rattle.gs_core.specs.Short.{wants_memory}
use Rattle.gs_script.specs.Naming.{Naming}
use Rattle.gs_script.specs.Said.{said_in}
use Rattle.gs_script.specs.Script.{Script}
use Rattle.gs_trace.specs.declared.run.Ended.{Ended}
use Rattle.gs_trace.specs.Output.{IsAnswer}
use Rattle.gs_trace.specs.Noted.{Noted, noted_after, noted_first}
use Rattle.gs_explain.specs.declared.run.Explanation.{Explanation}
use Rattle.gs_explain.specs.declared.run.Explanation.TheVariants.{Lines, Json}
use Rattle.gs_explain.specs.Moment.{Moment, moment}
use Rattle.gs_explain.specs.Rows.{reply_shown, row}
use Rattle.gs_explain.specs.Objects.{object_row}

-- a line of a script, with its number
abbrev pub Line : Type 0
Line = ℕ × List ℕ

-- what is shown of an event: of its line, of what is at hand, of how many entries there were before it, and of its reply
abbrev pub Show : Type 0
Show = Line → Moment → ℕ → Reply → List ℕ

-- as lines of text, or as an object
abbrev pub shown_by : Explanation → Show
shown_by Lines = row
shown_by Json = object_row

-- what is shown of an event of this line, from one machine to another
abbrev pub row_of : {A : Type 0} → Show → Noted → State → Line → Event A → Reply → State → List ℕ
row_of show n m x e r m' = show x (moment (noted_after x.0 r m' n) e m') (length m.history) r

-- what a row of text has between the script's line and the entries that were added: the reply, with its reasons
abbrev pub event_shown : {A : Type 0} → Noted → State → ℕ → Event A → Reply → State → List ℕ
event_shown n m line e r m' = reply_shown (moment (noted_after line r m' n) e m') (length m.history) r

-- events of these lines have these replies, each a step of the machine that the one before left, and the rows are these bytes
abbrev pub Explains : {A : Type 0} → (A → Plan) → Show → Noted → State → List (Event A) → List Reply → List Line → State → List ℕ → Type 0
Explains plans show n m [] [] xs end out = (end ≡ m) × (out ≡ [])
Explains plans show n m (e ∷ es) (r ∷ rs) (x ∷ xs) end out =
    (next : State) × (rest : List ℕ) × Step m (planned plans e) r next × Safe next × IsFaithful next
    × (out ≡ row_of show n m x e r next ++ rest) × Explains plans show (noted_after x.0 r next n) next es rs xs end rest
Explains plans show n m (e ∷ es) (r ∷ rs) [] end out = ⊥
Explains plans show n m (e ∷ es) [] xs end out = ⊥
Explains plans show n m [] (r ∷ rs) xs end out = ⊥

-- these bytes explain a script of these lines, of which the first is the header's, in a run in which memory sufficed
pub record Tells {A : Type 0} (plans : A → Plan) (show : Show) (header : Line) (xs : List Line) (s : Script A) (out : List ℕ) : Type 0 where
  pub replies : List Reply
  pub left : State
  pub explains : Explains plans show (noted_first header.0) (planning plans (start s.config)) s.events replies xs left out
  pub sufficed : list_any wants_memory replies ≡ false

abbrev pub TellsOf : {A : Type 0} → (A → Plan) → Show → List Line → Script A → List ℕ → Type 0
TellsOf plans show [] s out = ⊥
TellsOf plans show (x ∷ xs) s out = Tells plans show x xs s out

-- these bytes explain the script that an input says
abbrev pub Told : {A : Type 0} → (A → Plan) → Explanation → List ℕ → Script A → List ℕ → Type 0
Told plans how input s out = TellsOf plans (shown_by how) (said_in input) s out

-- what is to be written for an input, and how that ends
abbrev pub IsExplained : {A : Type 0} → Naming A → (A → Plan) → Explanation → List ℕ → Ended → List ℕ → Type 0
IsExplained naming plans how input ended out = IsAnswer naming (Told plans how) input ended out
