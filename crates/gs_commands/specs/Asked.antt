-- What the arguments ask for.
use Rattle.std.specs.Prelude.{◌≡◌, ◌≢◌, ◌<◌, ◌⊎◌, ◌&&◌, ◌||◌, ◌==◌, ⊤, ℕ, Bool, true, false, not, bytes_eq, codes, get_or, length, slice_get, take, if◌then◌else◌, List, [], ◌∷◌, Option, None, Some, Result, Ok, Err, IfOk, IfErr, IsErrAnd, IsSomeAnd, map, string_bytes}
use Rattle.std.specs.List.{list_any}
use Rattle.std.specs.Io.KnownBytes.{Appends, Keeps}
use Rattle.std.specs.Vec.Iter.{into_iter_items}
use Rattle.std.specs.declared.string.String.{String}
use Rattle.std.specs.declared.vec.IntoIter.{IntoIter}
use Rattle.clap.specs.Faults.{fault_of}
use Rattle.clap.specs.Words.{Text}
use Rattle.gs_arguments.specs.Arguments.{command_in, file_in, ghost_program, policies_in, seeds_in}
use Rattle.gs_arguments.specs.declared.command.Command.{Command}
use Rattle.gs_arguments.specs.declared.command.Command.TheVariants as commands
use Rattle.gs_arguments.specs.declared.command.Listed.{Listed as ListedArgument}
use Rattle.gs_arguments.specs.declared.command.Listed.TheVariants as lists
use Rattle.gs_serve.specs.Answered.{BeginsServingExplained, IsServedExplained}
use Rattle.gs_serve.specs.Served.{BeginsServing, IsServed}
use Rattle.gs_timeline.specs.declared.notes.Listed.{Listed}
use Rattle.gs_timeline.specs.declared.notes.Listed.TheVariants as listed
use Rattle.gs_core.specs.Machine.{Plan}
use Rattle.gs_script.specs.Naming.{Naming}
use Rattle.gs_trace.specs.Output.{IsShown, shown_as}
use Rattle.gs_trace.specs.Streams.{AnswersAll, AnswersRead, BeginsAnswer, ConsumesAtMost}
use Rattle.gs_trace.specs.declared.form.Form.TheVariants.{Lines, Report, Journal, Timeline, Trace}
use Rattle.gs_trace.specs.declared.form.Notation.{Notation}
use Rattle.gs_trace.specs.declared.form.Notation.TheVariants as notations
use Rattle.gs_trace.specs.declared.pipe.TheConstants.{MOST_READ_BYTES}
use Rattle.gs_trace.specs.declared.run.Ended.{Ended}
use Rattle.gs_trace.specs.declared.run.Ended.TheVariants.{Ran}
use Rattle.gs_trace.specs.declared.run.TraceFault.TheVariants.{OutOfMemory, WriteFailed}
use Rattle.gs_compare.specs.declared.asked.Asked.{Asked as AskedOfCompare}
use Rattle.gs_compare.specs.declared.asked.Form.{Form}
use Rattle.gs_compare.specs.declared.asked.Form.TheVariants as forms
use Rattle.gs_compare.specs.Compared.{BeginsComparison, WritesComparison}
use Rattle.gs_workbench.specs.Written.{BeginsScript, WritesScript}
use Rattle.gs_workers.specs.Work.{IsAllowed}
use Rattle.gs_workers.specs.Written.{BeginsText, IsText}
use Rattle.gs_workers.specs.declared.text.Shown.{Shown}
use Rattle.gs_workers.specs.declared.text.Shown.TheVariants as shows
use Rattle.gs_commands.specs.Failures.{IsOfTask, IsOfWords, IsOfWriting, IsUnopened, SaidOf, TellsOneOf}
use Rattle.gs_explain.specs.Explained.{IsExplained}
use Rattle.gs_explain.specs.declared.run.Explanation.{Explanation}
use Rattle.gs_explain.specs.declared.run.Explanation.TheVariants as explanations
use Rattle.gs_tables.specs.Tables.{IsTable}
use Rattle.gs_tables.specs.declared.run.Table.TheVariants as tables
use Rattle.gs_commands.specs.declared.asked.Task.{Task}
use Rattle.gs_commands.specs.declared.asked.Task.TheVariants.{Script, Serve, Simulation, Comparison, Workers}
use Rattle.gs_commands.specs.declared.asked.Wanted.{Wanted}
use Rattle.gs_commands.specs.declared.asked.Wanted.TheVariants as wanted
use Rattle.gs_commands.specs.Policies.{AreNamed, AreUnnamed}
use Rattle.gs_commands.specs.declared.failure.Failure.{Failure}
use Rattle.gs_commands.specs.declared.failure.Failure.TheVariants as failures
use Rattle.gs_commands.specs.declared.failure.Failure.TheVariants.{NearWord, UnknownWord}

-- the texts of all arguments that are left, in order
abbrev pub texts : {Z Y : Type 0} → IntoIter (String Z) Y → List Text
texts arguments = map string_bytes (into_iter_items arguments)

-- how a run of workers is to be shown
abbrev pub shown_asked : Bool → Shown
shown_asked true = shows.Journal
shown_asked false = shows.Line

-- how what explains a script is to be written
abbrev pub explanation_asked : Bool → Explanation
explanation_asked true = explanations.Json
explanation_asked false = explanations.Lines

-- which threads a picture is to list
abbrev pub listed_asked : ListedArgument → Listed
listed_asked lists.Few = listed.Few
listed_asked (lists.Most count) = listed.Most count
listed_asked (lists.One tid) = listed.One tid
listed_asked lists.All = listed.All

-- how a table is to be written
abbrev pub notation_asked : Bool → Notation
notation_asked true = notations.Json
notation_asked false = notations.Lines

-- in what form a comparison is to be written
abbrev pub form_asked : Bool → Bool → Form
form_asked true csv = forms.Json
form_asked false true = forms.Csv
form_asked false false = forms.Lines

-- a comparison of these policies by these seeds, for so many ticks and in this form
pub record IsComparison {A : Type 0} (policies : List A) (seeds : List ℕ) (ticks : Option ℕ) (form : Form) (how : AskedOfCompare A) : Type 0 where
  pub under : how.policies.now ≡ policies
  pub drawn : how.seeds.now ≡ seeds
  pub long : how.ticks ≡ ticks
  pub written : how.form ≡ form

abbrev pub Compares : {A : Type 0} → List A → List ℕ → Option ℕ → Form → Task A → Type 0
Compares policies seeds ticks form (Comparison how) = IsComparison policies seeds ticks form how
Compares policies seeds ticks form _ = ⊥

-- what a command asks for, by the policies and the seeds that are given to it
abbrev pub IsTaskOf : {A : Type 0} → Command → List A → List ℕ → Task A → Type 0
IsTaskOf commands.Run policies seeds task = task ≡ Script (wanted.Shown Lines)
IsTaskOf (commands.Explain json) policies seeds task = task ≡ Script (wanted.Explained (explanation_asked json))
IsTaskOf (commands.Report last) policies seeds task = task ≡ Script (wanted.Shown (Report last))
IsTaskOf (commands.Journal json) policies seeds task = task ≡ Script (wanted.Shown (Journal (notation_asked json)))
IsTaskOf (commands.Timeline from to l) policies seeds task = task ≡ Script (wanted.Shown (Timeline from to (listed_asked l)))
IsTaskOf (commands.Timehist json) policies seeds task = task ≡ Script (wanted.Tabled (tables.Timehist (notation_asked json)))
IsTaskOf (commands.Latency json threads) policies seeds task = task ≡ Script (wanted.Tabled (tables.Latency (notation_asked json) threads))
IsTaskOf commands.Trace policies seeds task = task ≡ Script (wanted.Shown Trace)
IsTaskOf (commands.Serve explained) policies seeds task = task ≡ Serve explained
IsTaskOf (commands.Simulate ticks) policies seeds task = task ≡ Simulation (record { policy = slice_get policies 0; ticks = ticks; seed = get_or seeds 0 0 })
IsTaskOf (commands.Compare ticks json csv) policies seeds task = Compares policies seeds ticks (form_asked json csv) task
IsTaskOf (commands.Threads workers each journal) policies seeds task = task ≡ Workers (record { workers = workers; each = each }) (shown_asked journal)

-- what is to be written for a script, and how that ends
abbrev pub Answers : {A : Type 0} → Naming A → (A → Plan) → Wanted → List ℕ → Ended → List ℕ → Type 0
Answers naming plans (wanted.Shown form) = IsShown naming plans (shown_as form)
Answers naming plans (wanted.Explained how) = IsExplained naming plans how
Answers naming plans (wanted.Tabled table) = IsTable naming plans table

-- there are as many workers and creations as there may be
abbrev pub MayBe : {A : Type 0} → Task A → Type 0
MayBe (Script w) = ⊤
MayBe (Serve explained) = ⊤
MayBe (Simulation how) = ⊤
MayBe (Comparison how) = ⊤
MayBe (Workers work shown) = IsAllowed work

-- all lines were answered, with reasons if they are explained
abbrev pub IsServedAs : {A : Type 0} → Naming A → (A → Plan) → Bool → Option (List ℕ) → Option (List ℕ) → Option (List ℕ) → Option (List ℕ) → Type 0
IsServedAs naming plans false had left before after = IsServed naming plans had left before after
IsServedAs naming plans true had left before after = IsServedExplained naming plans had left before after

-- or a beginning of the answers was written
abbrev pub BeginsServingAs : {A : Type 0} → Naming A → (A → Plan) → Bool → Option (List ℕ) → Option (List ℕ) → Option (List ℕ) → Type 0
BeginsServingAs naming plans false had before after = BeginsServing naming plans had before after
BeginsServingAs naming plans true had before after = BeginsServingExplained naming plans had before after

-- a task ended so. Of a script it is written what came of all that the reader has, and of what was read. Of lines all are answered. Of a
-- workload the script of its simulation is written, or the table that compares. Of workers a run that settled is shown, and nothing is read
abbrev pub IsDone : {A : Type 0} → Naming A → (A → Plan) → Task A → Ended → Option (List ℕ) → Option (List ℕ) → Option (List ℕ) → Option (List ℕ) → Type 0
IsDone naming plans (Script w) ended had left before after = AnswersAll (Answers naming plans w) ended had before after × AnswersRead (Answers naming plans w) ended had left before after
IsDone naming plans (Serve explained) ended had left before after = (ended ≡ Ran) × IsServedAs naming plans explained had left before after
IsDone naming plans (Simulation how) ended had left before after = (ended ≡ Ran) × WritesScript naming plans how had left before after
IsDone naming plans (Comparison how) ended had left before after = (ended ≡ Ran) × WritesComparison naming plans how.form how.policies.now how.seeds.now had left before after
IsDone naming plans (Workers work shown) ended had left before after = (ended ≡ Ran) × Keeps had left × ((out : List ℕ) × IsText work shown out × Appends before after out)

-- of what a task asks for a beginning was written, short of the whole
abbrev pub IsBegun : {A : Type 0} → Naming A → (A → Plan) → Task A → Option (List ℕ) → Option (List ℕ) → Option (List ℕ) → Type 0
IsBegun naming plans (Script w) had before after = BeginsAnswer (Answers naming plans w) had before after
IsBegun naming plans (Serve explained) had before after = BeginsServingAs naming plans explained had before after
IsBegun naming plans (Simulation how) had before after = (left : Option (List ℕ)) × BeginsScript naming plans how had left before after
IsBegun naming plans (Comparison how) had before after = (left : Option (List ℕ)) × BeginsComparison naming plans how.form how.policies.now how.seeds.now had left before after
IsBegun naming plans (Workers work shown) had before after = BeginsText work shown before after

-- no more is read than a script may have, and a bit. Of lines that are answered there may be any number
abbrev pub IsBounded : {A : Type 0} → Task A → Option (List ℕ) → Option (List ℕ) → Type 0
IsBounded (Serve explained) had left = ⊤
IsBounded _ had left = ConsumesAtMost MOST_READ_BYTES had left

-- no answer was begun: nothing was written, but answers to lines before
abbrev pub IsUnbegun : {A : Type 0} → Naming A → (A → Plan) → Task A → Option (List ℕ) → Option (List ℕ) → Option (List ℕ) → Type 0
IsUnbegun naming plans (Serve explained) had before after = BeginsServingAs naming plans explained had before after
IsUnbegun naming plans _ had before after = Keeps before after

-- what comes of a task, of what a reader has, and of what a writer holds. An error but that of a write leaves the writer as it was, but
-- for answers to lines, and that one leaves a beginning
pub record Does {A : Type 0} (naming : Naming A) (plans : A → Plan) (task : Task A) (had left before after : Option (List ℕ)) (result : Result Ended Failure) : Type 0 where
  pub ended : IfOk result (λ ended. IsDone naming plans task ended had left before after)
  pub bounded : IsBounded task had left
  pub unwritten : IfErr result (λ failure. (IsOfWriting failure → ⊥) → IsUnbegun naming plans task had before after)
  pub begun : IfErr result (λ failure. IsOfWriting failure → IsBegun naming plans task had before after)
  pub said : IfErr result (SaidOf task)

-- what comes of a task whose script a file has. It is done with what the file has, of which nothing is said here. Or the file cannot be
-- opened, and nothing is written
abbrev pub DoesInFile : {A : Type 0} → Naming A → (A → Plan) → Task A → Option (List ℕ) → Option (List ℕ) → Result Ended Failure → Type 0
DoesInFile naming plans task before after result = ((had left : Option (List ℕ)) × Does naming plans task had left before after result) ⊎ (IsErrAnd result IsUnopened × Keeps before after)

-- what comes of a task whose script this file has, and then nothing is read of the reader, or else the reader
abbrev pub DoesFrom : {A : Type 0} → Naming A → (A → Plan) → Option Text → Task A → Option (List ℕ) → Option (List ℕ) → Option (List ℕ) → Option (List ℕ) → Result Ended Failure → Type 0
DoesFrom naming plans None task had left before after result = Does naming plans task had left before after result
DoesFrom naming plans (Some file) task had left before after result = Keeps had left × DoesInFile naming plans task before after result

-- whether a word is a command of the program
abbrev pub is_command : Text → Bool
is_command word = list_any (bytes_eq word) (codes "run" ∷ codes "explain" ∷ codes "report" ∷ codes "journal" ∷ codes "timeline" ∷ codes "timehist" ∷ codes "latency" ∷ codes "trace" ∷ codes "serve" ∷ codes "simulate" ∷ codes "compare" ∷ codes "threads" ∷ codes "help" ∷ [])

abbrev pub is_option : Text → Bool
is_option word = get_or word 0 0 == 45

-- the word of `ghost help WORD`, unless that is a command or an option
abbrev pub help_word : List Text → Option Text
help_word (name ∷ command ∷ word ∷ []) = if bytes_eq command (codes "help") && not (is_command word || is_option word) then Some word else None
help_word _ = None

-- nothing was written of a word, or not all: nothing is said of it, out of memory, or a write failed
abbrev pub Unhelps : Option (List ℕ) → Option (List ℕ) → Failure → Type 0
Unhelps before after UnknownWord = Keeps before after
Unhelps before after (NearWord near) = Keeps before after
Unhelps before after (failures.Script fault) =
    ((fault ≡ OutOfMemory) × Keeps before after) ⊎ ((fault ≡ WriteFailed) × ((text : List ℕ) × (n : ℕ) × (n < length text) × Appends before after (take n text)))
Unhelps before after _ = ⊥

-- a text about a word was written, of which nothing is said here, or not all of it
abbrev pub Helps : Option (List ℕ) → Option (List ℕ) → Result Ended Failure → Type 0
Helps before after (Ok ended) = (ended ≡ Ran) × ((text : List ℕ) × Appends before after text)
Helps before after (Err failure) = Unhelps before after failure

-- what a command asks for is done, of the script that this file has, by the policies that texts name and these seeds
pub record DoesAsked {A : Type 0} (naming : Naming A) (plans : A → Plan) (command : Command) (texts : List Text) (seeds : List ℕ) (file : Option Text) (had left before after : Option (List ℕ)) (result : Result Ended Failure) : Type 0 where
  pub policies : List A
  pub named : AreNamed naming texts policies
  pub task : Task A
  pub asked : IsTaskOf command policies seeds task
  pub does : DoesFrom naming plans file task had left before after result

-- or one of the texts names no policy, or out of memory: then nothing is read and written
abbrev pub ObeysAsked : {A : Type 0} → Naming A → (A → Plan) → Command → List Text → List ℕ → Option Text → Option (List ℕ) → Option (List ℕ) → Option (List ℕ) → Option (List ℕ) → Result Ended Failure → Type 0
ObeysAsked naming plans command texts seeds file had left before after result =
    DoesAsked naming plans command texts seeds file had left before after result ⊎ (IsErrAnd result (AreUnnamed naming texts) × Keeps had left × Keeps before after)

-- what comes of the words of a command line. What their command asks for is done. Or nothing is read and written, and they are told what
-- is wrong, or out of memory. Words that have a fault are told one, and others that give a command are not, unless a policy has no name
pub record ObeysCommand {A : Type 0} (naming : Naming A) (plans : A → Plan) (words : List Text) (had left before after : Option (List ℕ)) (result : Result Ended Failure) : Type 0 where
  pub done : IsSomeAnd (command_in words) (λ command. ObeysAsked naming plans command (policies_in words) (seeds_in words) (file_in words) had left before after result)
      ⊎ (IsErrAnd result IsOfWords × Keeps had left × Keeps before after)
  pub told : fault_of ghost_program words ≢ [] → IsErrAnd result (TellsOneOf (fault_of ghost_program words))
  pub faultless : fault_of ghost_program words ≡ [] → (command : Command) → command_in words ≡ Some command → IfErr result (λ failure. IsOfTask failure ⊎ AreUnnamed naming (policies_in words) failure)

-- what comes of the words of a command line, of which help may be wanted of one: nothing is read then
abbrev pub ObeysIf : {A : Type 0} → Naming A → (A → Plan) → Option Text → List Text → Option (List ℕ) → Option (List ℕ) → Option (List ℕ) → Option (List ℕ) → Result Ended Failure → Type 0
ObeysIf naming plans (Some word) words had left before after result = Keeps had left × Helps before after result
ObeysIf naming plans None words had left before after result = ObeysCommand naming plans words had left before after result

abbrev pub Obeys : {A : Type 0} → Naming A → (A → Plan) → List Text → Option (List ℕ) → Option (List ℕ) → Option (List ℕ) → Option (List ℕ) → Result Ended Failure → Type 0
Obeys naming plans words had left before after result = ObeysIf naming plans (help_word words) words had left before after result
