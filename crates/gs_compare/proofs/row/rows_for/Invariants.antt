use Rattle.std.proofs.Common.{take}
use Rattle.std.specs.List.{AllZip}
use Rattle.gs_compare.specs.Rows.{IsRow}
use Rattle.gs_compare.proofs.row.rows_for.Given as goal

abbrev pub invariant-loop-key : goal.invariant-loop-key
invariant-loop-key g l = AllZip (IsRow l.columns) (take l.key-index l.keys) l.rows.items
