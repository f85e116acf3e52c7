-- The answers to lines, as they are read.
use Rattle.std.specs.Prelude.{◌≡◌, ⊤, ℕ, List, [], ◌∷◌, ◌++◌, take, Option, IfSome}
use Rattle.std.specs.Io.KnownBytes.{Appends, Consumes, IsAtEnd}
use Rattle.gs_core.specs.Machine.{Plan}
use Rattle.gs_lines.specs.Lines.{reply_lines}
use Rattle.gs_script.specs.Naming.{Naming}
use Rattle.gs_script.specs.Words.{lines_of}
use Rattle.gs_session.specs.declared.heard.Heard.{Heard}
use Rattle.gs_session.specs.declared.heard.Heard.TheVariants as heards
use Rattle.gs_session.specs.Lines.{HearsAll}
use Rattle.gs_session.specs.Session.{Session, unheard}
use Rattle.gs_trace.specs.Output.{fault_line}
use Rattle.gs_serve.specs.declared.fault.ServeFault.{ServeFault}
use Rattle.gs_serve.specs.declared.fault.ServeFault.TheVariants as faults

-- the lines that say what was heard: those of a reply, or that of a fault
abbrev pub said_of : Heard → List ℕ
said_of heards.Nothing = []
said_of heards.Opened = []
said_of (heards.Stepped r) = reply_lines r
said_of (heards.Fault f) = fault_line f

-- an answer: what was heard, and an empty line
abbrev pub answer_of : Heard → List ℕ
answer_of h = said_of h ++ 10 ∷ []

-- answers, one after another
abbrev pub answers_of : List Heard → List ℕ
answers_of [] = []
answers_of (h ∷ hs) = answer_of h ++ answers_of hs

-- a fault is that of a write
abbrev pub IsOfWriting : ServeFault → Type 0
IsOfWriting faults.ReadFailed = ⊥
IsOfWriting faults.OutOfMemory = ⊥
IsOfWriting faults.WriteFailed = ⊤
IsOfWriting faults.ReaderGone = ⊤

abbrev pub unless_empty : List ℕ → List (List ℕ)
unless_empty [] = []
unless_empty (b ∷ line) = (b ∷ line) ∷ []

-- lines, of which the last is none if it is empty: it stands behind the last newline
abbrev pub without_end : List (List ℕ) → List (List ℕ)
without_end [] = []
without_end (line ∷ []) = unless_empty line
without_end (line ∷ next ∷ lines) = line ∷ without_end (next ∷ lines)

-- the lines of all that is read
abbrev pub lines_in : List ℕ → List (List ℕ)
lines_in input = without_end (lines_of input)

-- all that the reader had was read, its lines were heard one after another, and of each the answer was written
pub record IsServed {A : Type 0} (naming : Naming A) (plans : A → Plan) (had left before after : Option (List ℕ)) : Type 0 where
  pub input : List ℕ
  pub heard : List Heard
  pub session : Session A
  pub consumed : Consumes had left input
  pub end : IsAtEnd left
  pub hears : HearsAll naming plans unheard (lines_in input) heard session
  pub written : Appends before after (answers_of heard)

-- of the lines that the reader had the first were heard, one after another, and a beginning of their answers was written
pub record BeginsServing {A : Type 0} (naming : Naming A) (plans : A → Plan) (had before after : Option (List ℕ)) : Type 0 where
  pub lines : List (List ℕ)
  pub behind : List (List ℕ)
  pub heard : List Heard
  pub session : Session A
  pub count : ℕ
  pub first : IfSome had (λ input. lines_of input ≡ lines ++ behind)
  pub hears : HearsAll naming plans unheard lines heard session
  pub written : Appends before after (take count (answers_of heard))
