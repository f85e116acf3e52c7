use Rattle.std.proofs.Common.{◌≡◌, ◌++◌, take}
use Rattle.std.specs.List.{flat_map}
use Rattle.gs_compare.specs.Lines.{cell_words}
use Rattle.gs_compare.proofs.lines.push_cells.Given as goal

abbrev pub invariant-loop-cell : goal.invariant-loop-cell
invariant-loop-cell g l = l.out ≡ l.fn.out ++ flat_map (cell_words g.P.NamedPolicy.naming l.several) (take l.cell-index l.cells)
