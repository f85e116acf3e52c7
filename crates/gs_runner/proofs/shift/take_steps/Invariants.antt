use Rattle.std.proofs.Common.{◌+◌, ◌≤◌, length}
use Rattle.gs_runner.proofs.shift.take_steps.Given as goal

abbrev pub invariant-loop-step : goal.invariant-loop-step
invariant-loop-step g l = length l.steps ≤ l.receipts.room + l.step-index
