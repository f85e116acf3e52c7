-- The receipts of a run.
use Rattle.std.specs.Prelude.{◌≡◌, Bool, false, ℕ, ◌≤◌, List, [], ◌∷◌, ◌++◌, length, All}
use Rattle.std.specs.Global.{Vec}
use Rattle.gs_journal.specs.History.{History}
use Rattle.gs_kernel.specs.declared.settings.Settings.{Settings}
use Rattle.gs_runner.specs.Calls.{GoesOnBy, LegalCall, ThreadRoom, is_refused}
use Rattle.gs_runner.specs.Holds.{Stands}
use Rattle.gs_runner.specs.Slips.{ReceiptsOf, StandsIn, receipts_in}
use Rattle.gs_runner.specs.declared.command.Command.{Command}
use Rattle.gs_runner.specs.declared.call.Call.{Call}
use Rattle.gs_runner.specs.declared.call.Called.TheVariants.{Served}
use Rattle.gs_runner.specs.declared.call.Receipt.{Receipt}

-- the receipt of a legal call with this command, on some history
pub record IsReceipt (parcels : ℕ) (c : Command) (r : Receipt) : Type 0 where
  pub settings : Settings
  pub before : History
  pub given : Bool
  pub after : History
  pub legal : LegalCall (ThreadRoom parcels) settings before given (Served c) r.reply after
  pub at : r.at ≡ length before
  pub entries : GoesOnBy r.entries before after

-- one for each command, in order
abbrev pub AreReceipts : ℕ → List Command → List Receipt → Type 0
AreReceipts parcels [] [] = Unit {0}
AreReceipts parcels (c ∷ cs) (r ∷ rs) = IsReceipt parcels c r × AreReceipts parcels cs rs
AreReceipts parcels [] (r ∷ rs) = ⊥
AreReceipts parcels (c ∷ cs) [] = ⊥

-- a receipt for each of these commands was added, in order: beside each journal in which their entries stand they are shown behind the others
pub record AddsReceipts (parcels : ℕ) (cs : List Command) (before after : ReceiptsOf) : Type 0 where
  pub more : List Receipt
  pub receipts : AreReceipts parcels cs more
  pub shown : (h : History) → All (StandsIn h) more → receipts_in h after ≡ receipts_in h before ++ more

-- one for each command, in order. Their places in the journal never fall, from this one on, and each that was not refused stands in the calls
abbrev pub Answered : List Call → ℕ → List Command → List Receipt → Type 0
Answered calls from [] [] = Unit {0}
Answered calls from (c ∷ cs) (r ∷ rs) = (from ≤ r.at) × (is_refused r.reply ≡ false → Stands calls c r) × Answered calls r.at cs rs
Answered calls from [] (r ∷ rs) = ⊥
Answered calls from (c ∷ cs) [] = ⊥

-- so for each list: its receipts stand at its place, their places in the journal never fall, and each that was not refused stands in the
-- calls
abbrev pub AllAnswered : List Call → List (Vec Command) → List (List Receipt) → Type 0
AllAnswered calls [] rs = Unit {0}
AllAnswered calls (l ∷ ls) (r ∷ rs) = Answered calls 0 l.items r × AllAnswered calls ls rs
AllAnswered calls (l ∷ ls) [] = ⊥
