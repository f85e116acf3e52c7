use Rattle.std.proofs.Common.{◌+◌, ◌≤◌, length, take}
use Rattle.gs_runner.specs.Receipts.{AddsReceipts}
use Rattle.gs_runner.proofs.lists.serve_all.Given as goal

abbrev pub invariant-loop-command : goal.invariant-loop-command
invariant-loop-command g l = (length l.commands ≤ l.receipts.room + l.command-index) × AddsReceipts g.L.Site.parcels (take l.command-index l.commands) l.initial.receipts l.receipts
