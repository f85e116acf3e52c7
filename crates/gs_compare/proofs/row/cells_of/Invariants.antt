use Rattle.std.proofs.Common.{take}
use Rattle.std.specs.List.{AllZip}
use Rattle.gs_compare.specs.Rows.{IsCell}
use Rattle.gs_compare.proofs.row.cells_of.Given as goal

abbrev pub invariant-loop-column : goal.invariant-loop-column
invariant-loop-column g l = AllZip (IsCell l.key) (take l.column-index l.columns) l.cells.items
