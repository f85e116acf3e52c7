-- The outcomes of a transaction.
use Rattle.std.specs.Prelude.{ℕ, ◌==◌, Option, None, Some, if◌then◌else◌}
use Rattle.gs_layout.specs.declared.outcome.Outcome.{Outcome}
use Rattle.gs_layout.specs.declared.outcome.Outcome.TheVariants as outcomes

-- the number that stands for an outcome
abbrev pub outcome_number : Outcome → ℕ
outcome_number outcomes.Placed = 0
outcome_number outcomes.Gone = 1
outcome_number outcomes.Displaced = 2
outcome_number outcomes.NoThread = 3
outcome_number outcomes.Stale = 4
outcome_number outcomes.NotRunnable = 5
outcome_number outcomes.AlreadyPlaced = 6
outcome_number outcomes.NotAllowed = 7
outcome_number outcomes.CpuIsAgent = 8
outcome_number outcomes.CpuTaken = 9
outcome_number outcomes.CpuBusy = 10
outcome_number outcomes.SeqSpent = 11
outcome_number outcomes.HistoryFull = 12
outcome_number outcomes.Malformed = 13
outcome_number outcomes.GroupFailed = 14

-- the outcome that a number stands for
abbrev pub outcome_numbered : ℕ → Option Outcome
outcome_numbered n =
    if n == 0 then Some outcomes.Placed else if n == 1 then Some outcomes.Gone else if n == 2 then Some outcomes.Displaced else if n == 3 then Some outcomes.NoThread else if n == 4 then Some outcomes.Stale else if n == 5 then Some outcomes.NotRunnable else if n == 6 then Some outcomes.AlreadyPlaced else if n == 7 then Some outcomes.NotAllowed else if n == 8 then Some outcomes.CpuIsAgent else if n == 9 then Some outcomes.CpuTaken else if n == 10 then Some outcomes.CpuBusy else if n == 11 then Some outcomes.SeqSpent else if n == 12 then Some outcomes.HistoryFull else if n == 13 then Some outcomes.Malformed else if n == 14 then Some outcomes.GroupFailed else None
