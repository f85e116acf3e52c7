use Rattle.std.proofs.Common.{◌≡◌, drop}
use Rattle.toml.specs.View.{items_view}
use Rattle.gs_workload.specs.Unknown.{list_part, strays_from}
use Rattle.gs_workload.proofs.unknown.unknown_among.Given as goal

abbrev pub invariant-loop-place : goal.invariant-loop-place
invariant-loop-place l = strays_from (list_part l.list) 0 (items_view l.values) ≡ strays_from (list_part l.list) l.place (items_view (drop l.place l.values))
