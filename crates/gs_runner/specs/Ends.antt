-- How a run ends.
use Rattle.std.specs.Prelude.{◌≡◌, ◌≤◌, ◌<◌, ℕ, Option, None, Some, Result, Ok, Err, List, length}
use Rattle.std.specs.Global.{Vec}
use Rattle.gs_agent.specs.Role.{RoleOf}
use Rattle.gs_journal.specs.History.{History, posted}
use Rattle.gs_link.specs.declared.taker.RtrbTaker.{RtrbTaker}
use Rattle.gs_link.specs.Between.{Gave}
use Rattle.gs_replies.specs.declared.config.ConfigFault.{ConfigFault}
use Rattle.gs_runner.specs.Calls.{IsLegal}
use Rattle.gs_runner.specs.Closing.{ClosedOf}
use Rattle.gs_runner.specs.Enclaves.{EnclaveOf}
use Rattle.gs_runner.specs.Receipts.{AllAnswered}
use Rattle.gs_runner.specs.Settles.{KnowsAll, WhyNot}
use Rattle.gs_runner.specs.Slips.{ReceiptsOf, all_receipts}
use Rattle.gs_runner.specs.Starts.{WhyNotStarted}
use Rattle.gs_runner.specs.declared.command.Command.{Command}
use Rattle.gs_runner.specs.declared.start.StartFault.TheVariants as faults
use Rattle.gs_runner.specs.declared.start.TheConstants.{MOST_PARCELS}
use Rattle.gs_runner.specs.declared.pass.TheConstants.{PASSES}
use Rattle.gs_runner.specs.declared.settling.Settled.{Settled}
use Rattle.gs_runner.specs.declared.settling.Unsettled.{Unsettled}
use Rattle.gs_runner.specs.declared.finished.RunFault.{RunFault}
use Rattle.gs_runner.specs.declared.finished.RunFault.TheVariants.{Start, TooMany, OutOfMemory, Close, Astray}

-- how many threads the role that is held knows
abbrev pub live_of : {P : Type 0} → Option (RoleOf P) → ℕ
live_of None = 0
live_of (Some r) = length r.mind.records

-- the role was given all that was posted and knows what the kernel knows, or this is why not
abbrev pub Says : {P : Type 0} → EnclaveOf → RtrbTaker → Option (RoleOf P) → Result Settled Unsettled → Type 0
Says e t o (Ok s) = Gave t (posted e.history) × KnowsAll o e
Says e t o (Err u) = WhyNot e t o u

-- an enclave with this journal, and what an agent holds: it knows so many threads, and settling answered this
pub record EndsAs (P : Type 0) (h : History) (threads : ℕ) (end : Result Settled Unsettled) : Type 0 where
  pub enclave : EnclaveOf
  pub taker : RtrbTaker
  pub role : Option (RoleOf P)
  pub journal : enclave.history ≡ h
  pub live : threads ≡ live_of role
  pub says : Says enclave taker role end

-- the calls of a run are a legal history for its journal, each of its threads left its receipts, and those of the lists are not those of their commands
pub record IsAstray (parcels : ℕ) (lists : List (Vec Command)) (n : ℕ) : Type 0 where
  pub closed : ClosedOf
  pub receipts : List ReceiptsOf
  pub count : length receipts ≡ n
  pub legal : IsLegal parcels closed.calls closed.journal.entries
  pub astray : AllAnswered closed.calls lists (all_receipts closed.journal.entries receipts) → ⊥

-- why a run of these lists, with shifts so many in all, has no end, once a station can be started: the first that applies. It can always be closed
abbrev pub Follows : ℕ → List (Vec Command) → ℕ → RunFault → Type 0
Follows parcels lists n (Start f) = f ≡ faults.OutOfMemory
Follows parcels lists n TooMany = PASSES < n
Follows parcels lists n OutOfMemory = n ≤ PASSES
Follows parcels lists n Close = ⊥
Follows parcels lists n Astray = (n ≤ PASSES) × IsAstray parcels lists n

-- why it has none: the first that applies
abbrev pub WhyNotRun : Option ConfigFault → ℕ → List (Vec Command) → ℕ → RunFault → Type 0
WhyNotRun fault parcels lists n (Start f) = WhyNotStarted fault parcels f
WhyNotRun fault parcels lists n f = (fault ≡ None) × (0 < parcels) × (parcels ≤ MOST_PARCELS) × Follows parcels lists n f
