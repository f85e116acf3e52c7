use Rattle.gs_compare.specs.Rows.{IsRow}
use Rattle.gs_compare.proofs.Zipping.{zip_more}
use Rattle.gs_compare.proofs.row.rows_for.Goals as goal

pub loop-key-preserved : goal.loop-key-preserved
loop-key-preserved g c =
    zip_more (IsRow c.args.columns.now) c.args.keys.now c.loop-key.key-index _ c.loop-key.rows.items c.push.new.self.items c.in_ok-row.row c.loop-key-test.true c.in_ok-push.ensures.items c.loop-key.invariant c.in_ok-row.ensures
