-- Answers to lines, whichever way they are written.
use Rattle.std.specs.Prelude.{◌≡◌, ℕ, List, [], ◌∷◌, ◌++◌, take, Option, None, Some, Result, Ok, Err, IfSome}
use Rattle.std.specs.Io.KnownBytes.{Appends, Consumes, IsAtEnd}
use Rattle.gs_replies.specs.declared.reply.Reply.{Reply}
use Rattle.gs_core.specs.declared.event.Event.{Event}
use Rattle.gs_core.specs.Machine.{Plan, StateOf, planning}
use Rattle.gs_lines.specs.Lines.{reply_lines}
use Rattle.gs_script.specs.declared.fault.Reason.{Reason}
use Rattle.gs_script.specs.Naming.{Naming}
use Rattle.gs_script.specs.Rows.{event_of}
use Rattle.gs_script.specs.Words.{lines_of}
use Rattle.gs_session.specs.declared.heard.Heard.{Heard}
use Rattle.gs_session.specs.declared.heard.Heard.TheVariants as heards
use Rattle.gs_session.specs.Session.{Session, Hears, read_within, unheard}
use Rattle.gs_trace.specs.Noted.{Noted, noted_after, noted_first}
use Rattle.gs_explain.specs.Explained.{event_shown}
use Rattle.gs_serve.specs.Served.{lines_in, said_of}

abbrev pub event_in : {A : Type 0} → Result (Option (Event A)) Reason → Option (Event A)
event_in (Ok o) = o
event_in (Err reason) = None

-- the event that a line says, if it has no fault and says one
abbrev pub event_said : {A : Type 0} → Naming A → List ℕ → Option (Event A)
event_said naming line = event_in (read_within (event_of naming) line)

-- A way to answer: how words name policies, and what these plan. Then what is shown of a line that a session heard, by what was noted of the lines before and the event that it says, and what is noted then
pub record Way (A : Type 0) : Type 0 where
  pub naming : Naming A
  pub plans : A → Plan
  pub shown : Noted → Session A → Option (Event A) → Heard → Session A → List ℕ
  pub noted : Noted → Heard → Session A → Noted

-- ---- plain answers

-- the lines that say what was heard. Nothing is noted
abbrev pub plain : {A : Type 0} → Naming A → (A → Plan) → Way A
plain naming plans = record { naming = naming; plans = plans; shown = λ n before e h after. said_of h; noted = λ n h after. n }

-- ---- explained answers

-- before the header nothing is noted of any line
abbrev pub none_noted : Noted
none_noted = noted_first 0

-- what is shown of an event of a line of this number: what a row of an explained script shows of it, between its line and its entries. Whoever replies has had a machine and an event
abbrev pub step_shown : {A : Type 0} → (A → Plan) → Noted → Option (StateOf A) → ℕ → Option (Event A) → Reply → Option (StateOf A) → List ℕ
step_shown plans n (Some m) line (Some e) r (Some next) = event_shown n (planning plans m) line e r (planning plans next)
step_shown plans n _ line _ r _ = reply_lines r

-- the lines that say what was heard, those of a reply with its reasons. A line's number counts all lines
abbrev pub explained_of : {A : Type 0} → (A → Plan) → Noted → Session A → Option (Event A) → Heard → Session A → List ℕ
explained_of plans n before e (heards.Stepped r) after = step_shown plans n before.opened after.count e r after.opened
explained_of plans n before e h after = said_of h

abbrev pub noted_by : {A : Type 0} → (A → Plan) → ℕ → Reply → Option (StateOf A) → Noted → Noted
noted_by plans line r None n = n
noted_by plans line r (Some m) n = noted_after line r (planning plans m) n

-- what is noted once a line was heard, as of an explained script
abbrev pub noted_behind : {A : Type 0} → (A → Plan) → Noted → Heard → Session A → Noted
noted_behind plans n heards.Opened after = noted_first after.count
noted_behind plans n (heards.Stepped r) after = noted_by plans after.count r after.opened n
noted_behind plans n h after = n

abbrev pub explained : {A : Type 0} → Naming A → (A → Plan) → Way A
explained naming plans = record { naming = naming; plans = plans; shown = explained_of plans; noted = noted_behind plans }

-- ---- one line

-- a session hears a line, and this is shown of it
pub record ShowsLine {A : Type 0} (w : Way A) (n : Noted) (old : Session A) (line : List ℕ) (h : Heard) (now : Noted) (new : Session A) (out : List ℕ) : Type 0 where
  pub hears : Hears w.naming w.plans old line h new
  pub shown : out ≡ w.shown n old (event_said w.naming line) h new
  pub noted : now ≡ w.noted n h new

abbrev pub Shows : {A : Type 0} → Way A → Noted → Session A → List ℕ → Noted → Session A → List ℕ → Type 0
Shows w n old line now new out = (h : Heard) × ShowsLine w n old line h now new out

-- an answer: what is shown, and an empty line
abbrev pub ended_by : List ℕ → List ℕ
ended_by text = text ++ 10 ∷ []

-- a session hears a line, and the answer is written
abbrev pub WritesLine : {A : Type 0} → Way A → Noted → Session A → List ℕ → Noted → Session A → Option (List ℕ) → Option (List ℕ) → Type 0
WritesLine w n old line now new before after = (out : List ℕ) × Shows w n old line now new out × Appends before after (ended_by out)

-- and if a beginning of it is written
abbrev pub StartsLine : {A : Type 0} → Way A → Noted → Session A → List ℕ → Noted → Session A → Option (List ℕ) → Option (List ℕ) → Type 0
StartsLine w n old line now new before after = (out : List ℕ) × (count : ℕ) × Shows w n old line now new out × Appends before after (take count (ended_by out))

-- ---- many lines

-- lines are heard one after another, and these are the answers
abbrev pub ShowsAll : {A : Type 0} → Way A → Noted → Session A → List (List ℕ) → List Heard → Noted → Session A → List ℕ → Type 0
ShowsAll {A} w n old [] [] now new out = (now ≡ n) × (new ≡ old) × (out ≡ [])
ShowsAll {A} w n old (line ∷ lines) (h ∷ hs) now new out =
    (between : Noted) × (mid : Session A) × (text : List ℕ) × (rest : List ℕ) × ShowsLine w n old line h between mid text × (out ≡ ended_by text ++ rest) × ShowsAll w between mid lines hs now new rest
ShowsAll {A} w n old [] (h ∷ hs) now new out = ⊥
ShowsAll {A} w n old (line ∷ lines) [] now new out = ⊥

-- all that the reader had was read, its lines were heard one after another, and of each the answer was written
pub record IsServedBy {A : Type 0} (w : Way A) (n : Noted) (had left before after : Option (List ℕ)) : Type 0 where
  pub input : List ℕ
  pub heard : List Heard
  pub noted : Noted
  pub session : Session A
  pub answers : List ℕ
  pub consumed : Consumes had left input
  pub end : IsAtEnd left
  pub shows : ShowsAll w n unheard (lines_in input) heard noted session answers
  pub written : Appends before after answers

-- of the lines that the reader had the first were heard, one after another, and a beginning of their answers was written
pub record BeginsServingBy {A : Type 0} (w : Way A) (n : Noted) (had before after : Option (List ℕ)) : Type 0 where
  pub lines : List (List ℕ)
  pub behind : List (List ℕ)
  pub heard : List Heard
  pub noted : Noted
  pub session : Session A
  pub answers : List ℕ
  pub count : ℕ
  pub first : IfSome had (λ input. lines_of input ≡ lines ++ behind)
  pub shows : ShowsAll w n unheard lines heard noted session answers
  pub written : Appends before after (take count answers)

-- the same of explained answers, before which nothing is noted
abbrev pub IsServedExplained : {A : Type 0} → Naming A → (A → Plan) → Option (List ℕ) → Option (List ℕ) → Option (List ℕ) → Option (List ℕ) → Type 0
IsServedExplained naming plans had left before after = IsServedBy (explained naming plans) none_noted had left before after

abbrev pub BeginsServingExplained : {A : Type 0} → Naming A → (A → Plan) → Option (List ℕ) → Option (List ℕ) → Option (List ℕ) → Type 0
BeginsServingExplained naming plans had before after = BeginsServingBy (explained naming plans) none_noted had before after
