use Rattle.std.proofs.Common.{◌≡◌, ◌++◌, take}
use Rattle.std.specs.List.{flat_map}
use Rattle.gs_compare.specs.Objects.{cell_object}
use Rattle.gs_compare.proofs.objects.push_cells.Given as goal

abbrev pub invariant-loop-cell : goal.invariant-loop-cell
invariant-loop-cell g l = l.out ≡ l.fn.out ++ flat_map (cell_object g.P.NamedPolicy.naming l.seeds l.key) (take l.cell-index l.cells)
