-- What a run leaves.
use Rattle.std.specs.Prelude.{◌≡◌, ℕ, ◌+◌, List, length, vec_len}
use Rattle.std.specs.Global.{Vec}
use Rattle.gs_runner.specs.Calls.{IsLegal}
use Rattle.gs_runner.specs.Ends.{EndsAs}
use Rattle.gs_runner.specs.Receipts.{AllAnswered}
use Rattle.gs_runner.specs.Slips.{all_receipts}
use Rattle.gs_runner.specs.declared.command.Command.{Command}
use Rattle.gs_runner.specs.declared.finished.Finished.{Finished}

-- a run of these lists, and of so many shifts, over a ring of so many parcels
pub record IsFinished (P : Type 0) (parcels : ℕ) (lists : List (Vec Command)) (shifts : ℕ) (f : Finished) : Type 0 where
  pub answered : AllAnswered f.closed.calls lists (all_receipts f.closed.journal.entries f.receipts.items)
  pub count : vec_len f.receipts ≡ length lists + shifts
  pub legal : IsLegal parcels f.closed.calls f.closed.journal.entries
  pub ended : EndsAs P f.closed.journal.entries f.threads f.end
