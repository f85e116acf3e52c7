use Rattle.std.proofs.Common.{◌≡◌, false, take}
use Rattle.std.specs.List.{list_any}
use Rattle.gs_core.specs.Short.{wants_memory}
use Rattle.gs_runner.specs.Slips.{receipts_in}
use Rattle.gs_workers.proofs.run.is_short_list.Given as goal

abbrev pub invariant-loop-index : goal.invariant-loop-index
invariant-loop-index l = list_any (λ r. wants_memory r.reply) (take l.index (receipts_in l.journal.entries l.receipts)) ≡ false
