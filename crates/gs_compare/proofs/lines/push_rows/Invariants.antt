use Rattle.std.proofs.Common.{◌≡◌, ◌++◌, take}
use Rattle.std.specs.List.{flat_map}
use Rattle.gs_compare.specs.Lines.{row_line}
use Rattle.gs_compare.proofs.lines.push_rows.Given as goal

abbrev pub invariant-loop-row : goal.invariant-loop-row
invariant-loop-row g l = l.out ≡ l.fn.out ++ flat_map (row_line g.P.NamedPolicy.naming l.several) (take l.row-index l.rows)
