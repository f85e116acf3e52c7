-- What is to be written for the bytes of an input.
use Rattle.std.specs.Prelude.{◌≡◌, ℕ, List, ◌++◌, false, length, map, codes, decimal, Result, Ok, Err}
use Rattle.std.specs.List.{list_any}
use Rattle.gs_replies.specs.declared.reply.Reply.{Reply}
use Rattle.gs_policy.specs.declared.any.AnyPolicy.{AnyPolicy}
use Rattle.gs_policy.specs.Any.{any_takes}
use Rattle.gs_policy.specs.Plan.{plan}
use Rattle.gs_core.specs.Machine.{Plan, State, planned, planning, start}
use Rattle.gs_core.specs.Safe.{Run}
use Rattle.gs_core.specs.Short.{wants_memory}
use Rattle.gs_script.specs.declared.fault.ScriptFault.{ScriptFault}
use Rattle.gs_script.specs.declared.fault.Reason.{Reason}
use Rattle.gs_script.specs.declared.fault.Reason.TheVariants as reasons
use Rattle.gs_trace.specs.declared.run.Ended.{Ended}
use Rattle.gs_trace.specs.declared.run.Ended.TheVariants.{Ran, Faulted}
use Rattle.gs_script.specs.Naming.{Naming}
use Rattle.gs_script.specs.Script.{Script, script_of}
use Rattle.gs_lines.specs.Lines.{lines, line}
use Rattle.gs_report.specs.Report.{report_of}
use Rattle.gs_history.specs.Journal.{journal_lines}
use Rattle.gs_history.specs.Json.{json_lines}
use Rattle.gs_journal.specs.History.{History}
use Rattle.std.specs.List.Sorted.{IsPermutation}
use Rattle.gs_timeline.specs.Stays.{all_stays}
use Rattle.gs_timeline.specs.declared.stay.Stay.{Stay}
use Rattle.gs_perfetto.specs.Events.{slice_front}
use Rattle.gs_timeline.specs.Bars.{bars}
use Rattle.gs_timeline.specs.Pieces.{HasEach}
use Rattle.gs_timeline.specs.Places.{scale_of}
use Rattle.gs_trace.specs.declared.form.Form.{Form}
use Rattle.gs_trace.specs.declared.form.Form.TheVariants.{Lines, Report, Journal, Timeline, Trace}
use Rattle.gs_trace.specs.declared.form.Notation.{Notation}
use Rattle.gs_trace.specs.declared.form.Notation.TheVariants as notations

abbrev pub reason_text : Reason → List ℕ
reason_text reasons.TooLong = codes "TooLong"
reason_text reasons.BadByte = codes "BadByte"
reason_text reasons.NoHeader = codes "NoHeader"
reason_text reasons.BadWord = codes "BadWord"
reason_text reasons.BadCount = codes "BadCount"
reason_text reasons.BadNumber = codes "BadNumber"
reason_text reasons.BadName = codes "BadName"

-- the one line of a script that has a fault
abbrev pub fault_line : ScriptFault → List ℕ
fault_line f = line (codes "fault line " ++ decimal f.line ++ codes " " ++ reason_text f.reason)

-- what either policy plans
abbrev pub any_plans : AnyPolicy → Plan
any_plans p = plan (any_takes p)

-- a text by which what came of a script is shown: its replies, how many CPUs there are, and the history of the machine that they leave
abbrev pub Show : Type 0
Show = List Reply → ℕ → History → List ℕ

-- a text shows what came of a script so
abbrev pub IsBy : Show → List Reply → ℕ → History → List ℕ → Type 0
IsBy show replies cpus h out = out ≡ show replies cpus h

-- these bytes answer the script, whose policies plan so: they show a run of it, from the machine of its header on, in which memory sufficed
pub record Answers {A : Type 0} (plans : A → Plan) (Shows : List Reply → ℕ → History → List ℕ → Type 0) (s : Script A) (out : List ℕ) : Type 0 where
  pub replies : List Reply
  pub left : State
  pub run : Run (planning plans (start s.config)) (map (planned plans) s.events) replies left
  pub sufficed : list_any wants_memory replies ≡ false
  pub shown : Shows replies left.settings.cpus left.history out

-- what is to be written for a script, and how that ends: bytes that show it, or the line of its fault
abbrev pub IsAnswerOf : {A : Type 0} → (Script A → List ℕ → Type 0) → Result (Script A) ScriptFault → Ended → List ℕ → Type 0
IsAnswerOf Shows (Ok s) ended out = (ended ≡ Ran) × Shows s out
IsAnswerOf Shows (Err f) ended out = (ended ≡ Faulted) × (out ≡ fault_line f)

-- what is to be written for an input if bytes show the script that it says so, and how that ends
abbrev pub IsAnswer : {A : Type 0} → Naming A → (List ℕ → Script A → List ℕ → Type 0) → List ℕ → Ended → List ℕ → Type 0
IsAnswer naming Shows input ended out = IsAnswerOf (Shows input) (script_of naming input) ended out

-- and if what came of it is shown so
abbrev pub IsShown : {A : Type 0} → Naming A → (A → Plan) → (List Reply → ℕ → History → List ℕ → Type 0) → List ℕ → Ended → List ℕ → Type 0
IsShown naming plans Shows input ended out = IsAnswerOf (Answers plans Shows) (script_of naming input) ended out

-- the text of a history, in either notation
abbrev pub history_shown : Notation → History → List ℕ
history_shown notations.Lines h = journal_lines h
history_shown notations.Json h = json_lines h

-- a trace of a history: each stay of a thread on a CPU is a slice, in the order in which a list of all of them has them
abbrev pub IsTrace : ℕ → History → List ℕ → Type 0
IsTrace cpus h out = (slices : List Stay) × IsPermutation (all_stays h cpus) slices × HasEach (map slice_front slices) out

-- a picture of the entries of a history from one place on, and to another. Each stay of a thread on a CPU that ends at a later pixel than
-- it begins has its bar
abbrev pub IsPicture : ℕ → ℕ → ℕ → History → List ℕ → Type 0
IsPicture from to cpus h out = HasEach (bars (scale_of (length h) from to) h cpus) out

-- which texts show what came of a script. The lines of its replies, a report with so many of the last of these, and the journal of all that
-- happened are exactly these texts. A journal has the last event's entries too. A picture has at least the bars of the stays, and a trace
-- at least each stay
abbrev pub shown_as : Form → List Reply → ℕ → History → List ℕ → Type 0
shown_as Lines replies cpus h out = out ≡ lines replies
shown_as (Report last) replies cpus h out = out ≡ report_of last replies
shown_as (Journal notation) replies cpus h out = out ≡ history_shown notation h
shown_as (Timeline from to listed) replies cpus h out = IsPicture from to cpus h out
shown_as Trace replies cpus h out = IsTrace cpus h out

-- what is to be written for an input: the lines of its replies
abbrev pub IsOutput : {A : Type 0} → Naming A → (A → Plan) → List ℕ → Ended → List ℕ → Type 0
IsOutput naming plans input ended out = IsShown naming plans (shown_as Lines) input ended out

-- or their report
abbrev pub IsReport : {A : Type 0} → Naming A → (A → Plan) → ℕ → List ℕ → Ended → List ℕ → Type 0
IsReport naming plans last input ended out = IsShown naming plans (shown_as (Report last)) input ended out
