-- A script's tables.
use Rattle.std.specs.Prelude.{◌≡◌, Bool, ℕ, List, [], ◌∷◌, ◌++◌, false, true, Result, length, map}
use Rattle.std.specs.List.{AllZip, list_any, range_with_len}
use Rattle.gs_journal.specs.History.{History}
use Rattle.gs_kernel.specs.declared.landing.Landing.{Landing}
use Rattle.gs_replies.specs.declared.reply.Reply.{Reply}
use Rattle.gs_core.specs.declared.event.Event.{Event}
use Rattle.gs_core.specs.Machine.{Plan, State, planning, start}
use Rattle.gs_core.specs.Short.{wants_memory}
use Rattle.gs_script.specs.declared.fault.ScriptFault.{ScriptFault}
use Rattle.gs_script.specs.Naming.{Naming}
use Rattle.gs_script.specs.Said.{said_in}
use Rattle.gs_script.specs.Script.{Script}
use Rattle.gs_trace.specs.declared.form.Notation.{Notation}
use Rattle.gs_trace.specs.declared.run.Ended.{Ended}
use Rattle.gs_trace.specs.Noted.{Noted, noted_first}
use Rattle.gs_trace.specs.Output.{IsAnswer}
use Rattle.gs_turns.specs.Knowing.{AreKnown}
use Rattle.gs_turns.specs.Turns.{IsTurns}
use Rattle.gs_turns.specs.declared.stance.Known.{Known}
use Rattle.gs_turns.specs.declared.turn.Turn.{Turn}
use Rattle.gs_tables.specs.declared.run.Table.{Table}
use Rattle.gs_tables.specs.declared.run.Table.TheVariants.{Latency, Timehist}
use Rattle.gs_tables.specs.Notes.{IsNoted, Line, Notes, landings_in}
use Rattle.gs_tables.specs.Latency.{latency_of}
use Rattle.gs_tables.specs.Timehist.{table_of}
use Rattle.gs_tallies.specs.Accounts.{IsAccountOfClass, IsAccountOfThread, classes, created_in}
use Rattle.gs_tallies.specs.declared.account.Account.{Account}
use Rattle.gs_usage.specs.Uses.{usage_of}

-- this text is the table of the turns of a history on so many CPUs, whose entries these lines added
pub record ShowsTurns (notation : Notation) (lines : List ℕ) (cpus : ℕ) (h : History) (out : List ℕ) : Type 0 where
  pub turns : List Turn
  pub are : IsTurns cpus h turns
  pub is : out ≡ table_of notation lines turns

-- the threads that a table has lines for: none, or each that was created
abbrev pub listed_in : Bool → List Known → List ℕ
listed_in false known = []
listed_in true known = created_in known

-- these are what each class comes to, by turns and by what became of slots, and behind these, if they are listed, each thread of a history
pub record AreAccounts (listed : Bool) (h : History) (turns : List Turn) (landings : List Landing) (all : List Account) : Type 0 where
  pub known : List Known
  pub tell : AreKnown h (length h) known
  pub by_class : List Account
  pub of_classes : AllZip (IsAccountOfClass known turns landings) classes by_class
  pub by_thread : List Account
  pub of_threads : AllZip (IsAccountOfThread known turns landings) (listed_in listed known) by_thread
  pub together : all ≡ by_class ++ by_thread

-- this text shows what classes came to, and threads if they are listed, and what CPUs were used for. That is by what became of slots, and by a history on so many CPUs
pub record ShowsLatency (notation : Notation) (listed : Bool) (landings : List Landing) (cpus : ℕ) (h : History) (out : List ℕ) : Type 0 where
  pub turns : List Turn
  pub are : IsTurns cpus h turns
  pub accounts : List Account
  pub tell : AreAccounts listed h turns landings accounts
  pub is : out ≡ latency_of notation accounts (map (usage_of h) (range_with_len 0 cpus))

-- which texts show a table: by what became of slots, the lines that added the entries, the count of CPUs and the history
abbrev pub Shows : Table → List Landing → List ℕ → ℕ → History → List ℕ → Type 0
Shows (Timehist notation) landings lines cpus h out = ShowsTurns notation lines cpus h out
Shows (Latency notation threads) landings lines cpus h out = ShowsLatency notation threads landings cpus h out

-- these bytes show a run of the events of a script, from one machine to another, of whose lines this was noted before
pub record ShowsRun {A : Type 0} (plans : A → Plan) (table : Table) (n : Noted) (m : State) (script : Result (List (Event A)) ScriptFault) (says : List Line) (end : State) (out : List ℕ) : Type 0 where
  pub last : Noted
  pub landings : List Landing
  pub noted : IsNoted plans n m script says end last landings
  pub shown : Shows table landings last.lines end.settings.cpus end.history out

-- these bytes show a script of these lines, of which the first is the header's, in a run in which memory sufficed
pub record Tabulates {A : Type 0} (plans : A → Plan) (table : Table) (header : Line) (xs : List Line) (s : Script A) (out : List ℕ) : Type 0 where
  pub replies : List Reply
  pub left : State
  pub noted : Noted
  pub notes : Notes plans (noted_first header.0) (planning plans (start s.config)) s.events replies xs left noted
  pub sufficed : list_any wants_memory replies ≡ false
  pub shown : Shows table (landings_in replies) noted.lines left.settings.cpus left.history out

abbrev pub TabulatesOf : {A : Type 0} → (A → Plan) → Table → List Line → Script A → List ℕ → Type 0
TabulatesOf plans table [] s out = ⊥
TabulatesOf plans table (x ∷ xs) s out = Tabulates plans table x xs s out

-- these bytes show the script that an input says
abbrev pub Tabulated : {A : Type 0} → (A → Plan) → Table → List ℕ → Script A → List ℕ → Type 0
Tabulated plans table input s out = TabulatesOf plans table (said_in input) s out

-- what is to be written for an input, and how that ends
abbrev pub IsTable : {A : Type 0} → Naming A → (A → Plan) → Table → List ℕ → Ended → List ℕ → Type 0
IsTable naming plans table input ended out = IsAnswer naming (Tabulated plans table) input ended out
