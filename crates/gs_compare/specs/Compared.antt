-- A workload under several policies, compared.
use Rattle.std.specs.Prelude.{◌≡◌, ◌<◌, ℕ, List, [], ◌∷◌, Option, None, length, take}
use Rattle.std.specs.List.{AllZip}
use Rattle.std.specs.Io.KnownBytes.{Appends}
use Rattle.gs_core.specs.Machine.{Plan}
use Rattle.gs_kernel.specs.declared.landing.Landing.{Landing}
use Rattle.gs_script.specs.Naming.{Naming}
use Rattle.gs_session.specs.Session.{Session}
use Rattle.gs_simulate.specs.Heard.{IsHeaded, IsHeardWith}
use Rattle.gs_trace.specs.Streams.{IsRead}
use Rattle.gs_workbench.specs.Settings.{policy_of}
use Rattle.gs_workload.specs.Read.{Says}
use Rattle.gs_workload.specs.declared.workload.Workload.{Workload}
use Rattle.gs_compare.specs.declared.asked.Form.{Form}
use Rattle.gs_compare.specs.declared.asked.Form.TheVariants as forms
use Rattle.gs_compare.specs.declared.measured.Measured.{Measured}
use Rattle.gs_compare.specs.declared.row.Column.{Column}
use Rattle.gs_compare.specs.declared.row.Row.{Row}
use Rattle.gs_compare.specs.Measures.{IsMeasured, cpus_of, history_of}
use Rattle.gs_compare.specs.Rows.{AreRows}
use Rattle.gs_compare.specs.Lines.{lines_text}
use Rattle.gs_compare.specs.Objects.{objects_text}
use Rattle.gs_compare.specs.Records.{records_text}

-- this was measured of a simulation of a workload under a policy. A new session heard the lines of a text one after another, none of them
-- with a fault, and these are the landings that its replies told of. The text has the header of this workload, with this policy. Policies
-- are named so, and plan so
pub record IsRun {A : Type 0} (naming : Naming A) (plans : A → Plan) (workload : Workload A) (p : A) (m : Measured) : Type 0 where
  pub text : List ℕ
  pub session : Session A
  pub landings : List Landing
  pub heard : IsHeardWith naming plans text session landings
  pub headed : IsHeaded naming workload.cpus workload.ring p text
  pub measured : IsMeasured landings (cpus_of session) (history_of session) m

-- a column is called by this policy, and has what was measured of a simulation under it for each of these seeds. Nothing is said here of the ticks and the seed of that
-- simulation, and of what the workload's threads do in it: no contract of a simulation tells it
abbrev pub IsTried : {A : Type 0} → Naming A → (A → Plan) → Workload A → List ℕ → A → Column A → Type 0
IsTried naming plans workload seeds p c = (c.policy ≡ p) × AllZip (λ (seed : ℕ) (m : Measured). IsRun naming plans workload p m) seeds c.runs.items

-- the policies that are asked for, or without any these
abbrev pub policies_or : {A : Type 0} → List A → List A → List A
policies_or own [] = own
policies_or own (p ∷ ps) = p ∷ ps

-- the seeds that are asked for. Without any it is 0
abbrev pub seeds_or : List ℕ → List ℕ
seeds_or [] = 0 ∷ []
seeds_or (s ∷ ss) = s ∷ ss

-- the table in a form, of so many seeds
abbrev pub table_of : {A : Type 0} → Naming A → Form → ℕ → List A → List (Row A) → List ℕ
table_of naming forms.Lines seeds policies rows = lines_text naming seeds policies rows
table_of naming forms.Json seeds policies rows = objects_text naming seeds rows
table_of naming forms.Csv seeds policies rows = records_text naming seeds rows

-- a text is the table of what was measured of policies, by so many seeds
pub record IsTable {A : Type 0} (naming : Naming A) (form : Form) (seeds : ℕ) (policies : List A) (columns : List (Column A)) (out : List ℕ) : Type 0 where
  pub rows : List (Row A)
  pub are : AreRows columns rows
  pub is : out ≡ table_of naming form seeds policies rows

-- a text is the table of such columns, one for each policy
pub record Compares {A : Type 0} (naming : Naming A) (plans : A → Plan) (workload : Workload A) (form : Form) (policies : List A) (seeds : List ℕ) (out : List ℕ) : Type 0 where
  pub columns : List (Column A)
  pub tried : AllZip (IsTried naming plans workload seeds) policies columns
  pub table : IsTable naming form (length seeds) policies columns out

-- an input says a workload, and a text is its table under the policies and by the seeds that are asked for
pub record IsComparison {A : Type 0} (naming : Naming A) (plans : A → Plan) (form : Form) (policies : List A) (seeds input out : List ℕ) : Type 0 where
  pub workload : Workload A
  pub says : Says naming input workload
  pub compares : Compares naming plans workload form (policies_or (policy_of naming None workload.policy ∷ []) policies) (seeds_or seeds) out

-- a workload was read, and its table was written
pub record WritesComparison {A : Type 0} (naming : Naming A) (plans : A → Plan) (form : Form) (policies : List A) (seeds : List ℕ) (had left before after : Option (List ℕ)) : Type 0 where
  pub input : List ℕ
  pub text : List ℕ
  pub read : IsRead had left input
  pub compared : IsComparison naming plans form policies seeds input text
  pub written : Appends before after text

-- and if a beginning of it was written, short of the whole
pub record BeginsComparison {A : Type 0} (naming : Naming A) (plans : A → Plan) (form : Form) (policies : List A) (seeds : List ℕ) (had left before after : Option (List ℕ)) : Type 0 where
  pub input : List ℕ
  pub text : List ℕ
  pub count : ℕ
  pub read : IsRead had left input
  pub compared : IsComparison naming plans form policies seeds input text
  pub short : count < length text
  pub written : Appends before after (take count text)
