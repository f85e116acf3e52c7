use Rattle.std.proofs.Common.{◌≡◌, ◌++◌, map, take}
use Rattle.gs_compare.specs.Rows.{key_of}
use Rattle.gs_compare.proofs.row.add_measures.Given as goal

abbrev pub invariant-loop-measure : goal.invariant-loop-measure
invariant-loop-measure l = l.keys.items ≡ l.fn.keys.items ++ map (key_of l.class) (take l.measure-index l.measures)
