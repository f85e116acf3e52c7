use Rattle.std.proofs.Common.{◌≡◌, drop, length}
use Rattle.std.specs.List.{All}
use Rattle.toml.specs.View.{items_view}
use Rattle.gs_workload.specs.Entries.{row_said, rows_from}
use Rattle.gs_workload.proofs.Lists.{with_front}
use Rattle.gs_workload.proofs.entries.rows.Given as goal

abbrev pub invariant-loop-item : goal.invariant-loop-item
invariant-loop-item g l =
    let read = row_said g.T.Row.said g.T.Row.part_at l.fields.part l.key l.cpus in
    record {
      left : rows_from read 0 (items_view l.item-items) ≡ with_front l.rows.items (rows_from read (length l.rows.items) (items_view (drop l.item-index l.item-items)));
      place : length l.rows.items ≡ l.item-index;
      fits : All (g.T.Row.fits l.cpus) l.rows.items;
    }
