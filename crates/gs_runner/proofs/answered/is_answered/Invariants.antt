use Rattle.std.proofs.Common.{◌≡◌, ◌≤◌, length, map}
use Rattle.std.specs.Prelude.{◌↔◌}
use Rattle.gs_runner.specs.Receipts.{Answered}
use Rattle.gs_runner.specs.Slips.{AreInside, receipt_kept, receipts_in}
use Rattle.gs_runner.proofs.answered.is_answered.Given as goal

abbrev pub invariant-commands : goal.invariant-commands
invariant-commands l = record {
  calls : l.search.calls ≡ l.closed.calls;
  entries : l.search.entries ≡ l.closed.journal.entries;
  order : l.search.at ≤ l.from;
  inside : AreInside (length l.others) l.slips;
  same : Answered l.closed.calls l.from l.commands (map (receipt_kept l.closed.journal.entries l.others) l.slips) ↔ Answered l.closed.calls 0 l.fn.commands (receipts_in l.closed.journal.entries l.receipts);
}

abbrev pub decreases-commands : goal.decreases-commands
decreases-commands l = length l.commands
