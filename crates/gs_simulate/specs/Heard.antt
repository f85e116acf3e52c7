-- The script that a simulation writes, and the session that heard it.
use Rattle.std.specs.Prelude.{◌≡◌, ⊤, ℕ, Bool, true, false, List, [], ◌∷◌, ◌++◌, Option, None, Some, if◌then◌else◌, ◌≤◌, length, take}
use Rattle.std.specs.List.{flat_map}
use Rattle.gs_core.specs.Machine.{Plan}
use Rattle.gs_kernel.specs.declared.landing.Landing.{Landing}
use Rattle.gs_replies.specs.declared.reply.Reply.{Reply}
use Rattle.gs_report.specs.Counts.{landings_of}
use Rattle.gs_script.specs.declared.fault.ScriptFault.{ScriptFault}
use Rattle.gs_script.specs.Naming.{Naming}
use Rattle.gs_session.specs.declared.heard.Heard.{Heard}
use Rattle.gs_session.specs.declared.heard.Heard.TheVariants as heards
use Rattle.gs_session.specs.Lines.{HearsAll, replies_in}
use Rattle.gs_session.specs.Session.{Session, Hears, unheard}
use Rattle.gs_simulate.specs.Lines.{header_line}

-- lines as text: each ends with a newline
abbrev pub text_of : List (List ℕ) → List ℕ
text_of [] = []
text_of (line ∷ lines) = line ++ 10 ∷ text_of lines

-- the fault that was heard, if one was
abbrev pub fault_of : Heard → Option ScriptFault
fault_of (heards.Fault f) = Some f
fault_of heards.Nothing = None
fault_of heards.Opened = None
fault_of (heards.Stepped r) = None

abbrev pub IsWithoutFault : Heard → Type 0
IsWithoutFault h = fault_of h ≡ None

abbrev pub AreWithoutFault : List Heard → Type 0
AreWithoutFault [] = ⊤
AreWithoutFault (h ∷ hs) = IsWithoutFault h × AreWithoutFault hs

-- a new session heard the lines of a text one after another, none of them with a fault, and is this one now. Policies are named so, and plan so
pub record IsHeard {A : Type 0} (naming : Naming A) (plans : A → Plan) (text : List ℕ) (session : Session A) : Type 0 where
  pub lines : List (List ℕ)
  pub heard : List Heard
  pub written : text ≡ text_of lines
  pub hears : HearsAll naming plans unheard lines heard session
  pub faultless : AreWithoutFault heard

-- a text begins with the line of a header, by its counts of CPUs and of the ring's bytes, and by its policy
pub record IsHeaded {A : Type 0} (naming : Naming A) (cpus ring : ℕ) (policy : A) (text : List ℕ) : Type 0 where
  pub rest : List ℕ
  pub begins : text ≡ header_line naming cpus ring policy ++ 10 ∷ rest

-- the landings that replies tell of, in order
abbrev pub landings_in : List Reply → List Landing
landings_in rs = flat_map landings_of rs

-- the landings that what was heard of one line tells of
abbrev pub landings_heard : Heard → List Landing
landings_heard (heards.Stepped r) = landings_of r
landings_heard heards.Nothing = []
landings_heard heards.Opened = []
landings_heard (heards.Fault f) = []

-- the same, and these are the landings that the replies told of which it heard
pub record IsHeardWith {A : Type 0} (naming : Naming A) (plans : A → Plan) (text : List ℕ) (session : Session A) (landings : List Landing) : Type 0 where
  pub script : IsHeard naming plans text session
  pub landed : landings ≡ landings_in (replies_in script.heard)

-- a text, a session, the landings that its replies told of, whether it heard the text, and how many bytes of the text are its head
pub record Written (A : Type 0) : Type 0 where
  pub text : List ℕ
  pub session : Session A
  pub landings : List Landing
  pub whole : Bool
  pub headed : ℕ

-- the head of a text that was heard
abbrev pub head_of : {A : Type 0} → Written A → Option (List ℕ)
head_of w = if w.whole then Some (take w.headed w.text) else None

-- the same of a text of which so many bytes are the head
pub record IsHeardWhole {A : Type 0} (naming : Naming A) (plans : A → Plan) (text : List ℕ) (session : Session A) (landings : List Landing) (headed : ℕ) : Type 0 where
  pub heard : IsHeardWith naming plans text session landings
  pub within : headed ≤ length text

abbrev pub IsHeardIf : {A : Type 0} → Naming A → (A → Plan) → Bool → List ℕ → Session A → List Landing → ℕ → Type 0
IsHeardIf naming plans true text session landings headed = IsHeardWhole naming plans text session landings headed
IsHeardIf naming plans false text session landings headed = ⊤

-- a line is added to the text, and is what the session heard
pub record AddsLine {A : Type 0} (naming : Naming A) (plans : A → Plan) (old : Written A) (line : List ℕ) (h : Heard) (new : Written A) : Type 0 where
  pub text : new.text ≡ old.text ++ line ++ 10 ∷ []
  pub hears : Hears naming plans old.session line h new.session
  pub faultless : IsWithoutFault h
  pub landed : new.landings ≡ old.landings ++ landings_heard h
  pub whole : new.whole ≡ true
