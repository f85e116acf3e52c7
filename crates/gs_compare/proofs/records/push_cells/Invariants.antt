use Rattle.std.proofs.Common.{◌≡◌, ◌++◌, take}
use Rattle.std.specs.List.{flat_map}
use Rattle.gs_compare.specs.Records.{cell_record}
use Rattle.gs_compare.proofs.records.push_cells.Given as goal

abbrev pub invariant-loop-cell : goal.invariant-loop-cell
invariant-loop-cell g l = l.out.items ≡ l.fn.out.items ++ flat_map (cell_record g.P.NamedPolicy.naming l.seeds l.key) (take l.cell-index l.cells)
