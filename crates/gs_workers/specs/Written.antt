-- What is written of a run, or why nothing is.
use Rattle.std.specs.Prelude.{◌≡◌, ◌⊎◌, ◌<◌, ⊤, Bool, false, ℕ, List, ◌++◌, Option, Ok, Err, length, map, take, codes, decimal}
use Rattle.std.specs.Global.{Vec}
use Rattle.std.specs.List.{list_any}
use Rattle.std.specs.Io.KnownBytes.{Appends}
use Rattle.gs_policy.specs.declared.first_come.FirstCome.{FirstCome}
use Rattle.gs_core.specs.Short.{wants_memory}
use Rattle.gs_lines.specs.Lines.{line}
use Rattle.gs_history.specs.Journal.{journal_lines}
use Rattle.gs_runner.specs.Finishes.{IsFinished}
use Rattle.gs_runner.specs.Slips.{receipts_in}
use Rattle.gs_runner.specs.declared.command.Command.{Command}
use Rattle.gs_runner.specs.declared.finished.Finished.{Finished}
use Rattle.gs_runner.specs.declared.finished.RunFault.{RunFault}
use Rattle.gs_runner.specs.declared.finished.RunFault.TheVariants as runs
use Rattle.gs_runner.specs.declared.start.StartFault.TheVariants as starts
use Rattle.gs_workers.specs.Work.{all_creations, parcels, turns}
use Rattle.gs_workers.specs.declared.fault.WorkFault.{WorkFault}
use Rattle.gs_workers.specs.declared.fault.WorkFault.TheVariants.{OutOfMemory, Astray, Unsettled}
use Rattle.gs_workers.specs.declared.text.Shown.{Shown}
use Rattle.gs_workers.specs.declared.text.Shown.TheVariants.{Line, Journal}
use Rattle.gs_workers.specs.declared.work.Work.{Work}

-- a run of workers that create their threads, beside an agent with its turns
pub record IsRunOf (w : Work) (f : Finished) : Type 0 where
  pub lists : List (Vec Command)
  pub commands : map (λ l. l.items) lists ≡ all_creations w
  pub finished : IsFinished FirstCome (parcels w) lists (length (turns w)) f

-- whether a call was refused because memory ran out
abbrev pub is_short : Finished → Bool
is_short f = list_any (λ receipts. list_any (λ r. wants_memory r.reply) (receipts_in f.closed.journal.entries receipts)) f.receipts.items

-- how many calls were accepted
abbrev pub calls_in : Finished → ℕ
calls_in f = length f.closed.calls

-- the line of a run that settled: how many threads the agent knew, and how many calls were accepted
abbrev pub settled_line : Finished → List ℕ
settled_line f = line (codes "settled threads " ++ decimal f.threads ++ codes " calls " ++ decimal (calls_in f))

-- how a run is shown: by that line, or by its journal
abbrev pub shown_of : Shown → Finished → List ℕ
shown_of Line f = settled_line f
shown_of Journal f = journal_lines f.closed.journal.entries

-- these bytes show a run of this work that settled, in which memory sufficed
pub record IsText (w : Work) (shown : Shown) (out : List ℕ) : Type 0 where
  pub finished : Finished
  pub run : IsRunOf w finished
  pub sufficed : is_short finished ≡ false
  pub settled : finished.end ≡ Ok (record {})
  pub is : out ≡ shown_of shown finished

-- of such bytes a beginning was written, short of the whole
pub record BeginsText (w : Work) (shown : Shown) (before after : Option (List ℕ)) : Type 0 where
  pub out : List ℕ
  pub text : IsText w shown out
  pub n : ℕ
  pub short : n < length out
  pub begun : Appends before after (take n out)

-- what keeps a run of workers from its end, of all that may keep a run
abbrev pub IsPossible : RunFault → Type 0
IsPossible (runs.Start fault) = fault ≡ starts.OutOfMemory
IsPossible runs.TooMany = ⊥
IsPossible runs.Close = ⊥
IsPossible _ = ⊤

-- why a run has no end
abbrev pub HasNoEnd : WorkFault → Type 0
HasNoEnd fault = (fault ≡ OutOfMemory) ⊎ (fault ≡ Astray)

-- why nothing is written of a run of this work: if the agent did not settle, that is what settling said
abbrev pub WhyUntold : Work → WorkFault → Type 0
WhyUntold w (Unsettled u) = (f : Finished) × IsRunOf w f × (is_short f ≡ false) × (f.end ≡ Err u)
WhyUntold w _ = ⊤
