use Rattle.std.proofs.Common.{◌≡◌, ◌<◌, ◌^◌, drop}
use Rattle.toml.specs.View.{items_view}
use Rattle.gs_workload.specs.Values.{mask_with}
use Rattle.gs_workload.proofs.values.mask.Given as goal

abbrev pub invariant-loop-item : goal.invariant-loop-item
invariant-loop-item l =
    record {
      left : mask_with l.cpus 0 (items_view l.item-items) ≡ mask_with l.cpus l.bits (items_view (drop l.item-index l.item-items));
      fits : l.bits < 2 ^ l.cpus;
    }
