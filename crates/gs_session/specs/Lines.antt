-- What a session hears of lines, one after another, and the script that they make.
use Rattle.std.specs.Prelude.{◌≡◌, ℕ, List, [], ◌∷◌, ◌++◌, map, Option, None, Some, Result, Ok, Err}
use Rattle.gs_replies.specs.declared.reply.Reply.{Reply}
use Rattle.gs_core.specs.Machine.{Plan, StateOf, planned, planning, start}
use Rattle.gs_core.specs.Safe.{Run}
use Rattle.gs_script.specs.declared.fault.Reason.TheVariants.{NoHeader}
use Rattle.gs_script.specs.declared.fault.ScriptFault.{ScriptFault}
use Rattle.gs_script.specs.Naming.{Naming}
use Rattle.gs_script.specs.Script.{Script, fault}
use Rattle.gs_session.specs.declared.heard.Heard.{Heard}
use Rattle.gs_session.specs.declared.heard.Heard.TheVariants as heards
use Rattle.gs_session.specs.Session.{Session, Hears}

-- lines are heard one after another
abbrev pub HearsAll : {A : Type 0} → Naming A → (A → Plan) → Session A → List (List ℕ) → List Heard → Session A → Type 0
HearsAll naming plans before [] [] after = after ≡ before
HearsAll {A} naming plans before (line ∷ lines) (h ∷ hs) after = (mid : Session A) × Hears naming plans before line h mid × HearsAll naming plans mid lines hs after
HearsAll naming plans before [] (h ∷ hs) after = ⊥
HearsAll naming plans before (line ∷ lines) [] after = ⊥

-- a line, unless it has a fault
abbrev pub unless_fault : List ℕ → Heard → List (List ℕ)
unless_fault line (heards.Fault f) = []
unless_fault line heards.Nothing = line ∷ []
unless_fault line heards.Opened = line ∷ []
unless_fault line (heards.Stepped r) = line ∷ []

-- the lines that have no fault, by what was heard of each
abbrev pub faultless : List (List ℕ) → List Heard → List (List ℕ)
faultless (line ∷ lines) (h ∷ hs) = unless_fault line h ++ faultless lines hs
faultless _ _ = []

-- the reply that was heard, if one was
abbrev pub reply_in : Heard → List Reply
reply_in (heards.Stepped r) = r ∷ []
reply_in heards.Nothing = []
reply_in heards.Opened = []
reply_in (heards.Fault f) = []

abbrev pub replies_in : List Heard → List Reply
replies_in [] = []
replies_in (h ∷ hs) = reply_in h ++ replies_in hs

-- a script is run with these replies, and leaves this machine. Each policy plans so
pub record IsRunOf {A : Type 0} (plans : A → Plan) (script : Result (Script A) ScriptFault) (replies : List Reply) (left : StateOf A) : Type 0 where
  pub says : Script A
  pub is : script ≡ Ok says
  pub run : Run (planning plans (start says.config)) (map (planned plans) says.events) replies (planning plans left)

-- the same, if a machine is left. Without one there is no header, and no reply
abbrev pub IsRunIn : {A : Type 0} → (A → Plan) → Result (Script A) ScriptFault → List Reply → Option (StateOf A) → Type 0
IsRunIn plans script replies None = (script ≡ Err (fault 0 NoHeader)) × (replies ≡ [])
IsRunIn plans script replies (Some m) = IsRunOf plans script replies m
