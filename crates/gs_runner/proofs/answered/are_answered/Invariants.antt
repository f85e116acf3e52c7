use Rattle.std.proofs.Common.{length}
use Rattle.std.specs.Prelude.{◌↔◌}
use Rattle.gs_runner.specs.Receipts.{AllAnswered}
use Rattle.gs_runner.specs.Slips.{all_receipts}
use Rattle.gs_runner.proofs.answered.are_answered.Given as goal

abbrev pub invariant-lists : goal.invariant-lists
invariant-lists l = AllAnswered l.closed.calls l.lists (all_receipts l.closed.journal.entries l.receipts) ↔ AllAnswered l.closed.calls l.fn.lists (all_receipts l.closed.journal.entries l.fn.receipts)

abbrev pub decreases-lists : goal.decreases-lists
decreases-lists l = length l.lists
