use Rattle.std.proofs.Common.{◌≡◌, take}
use Rattle.std.specs.List.{flat_map}
use Rattle.gs_compare.specs.Objects.{row_objects}
use Rattle.gs_compare.proofs.objects.objects_of.Given as goal

abbrev pub invariant-loop-row : goal.invariant-loop-row
invariant-loop-row g l = l.out ≡ flat_map (row_objects g.P.NamedPolicy.naming l.seeds) (take l.row-index l.rows)
