use Rattle.std.proofs.Common.{arith}
use Rattle.gs_threads.proofs.Living.{of_no_rows}
use Rattle.gs_threads.proofs.table.ThreadTable.new.Goals as goal

pub invariant_of-result : goal.invariant_of-result
invariant_of-result c =
    (omega (arith, c.new.ensures.len), c.requires, of_no_rows c.new-2.result c.new.result.items c.new-2.ensures c.new.ensures.items)
