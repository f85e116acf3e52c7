use Rattle.std.proofs.Common.{◌≤◌, ◌+◌, length}
use Rattle.gs_text.proofs.Known.{appends_more, pieces, piece_fits}
use Rattle.gs_text.proofs.writing.write_out.Goals as goal

pub loop-written-preserved : goal.loop-written-preserved
loop-written-preserved g c =
    let within : c.loop-written.written + c.in-Ok.count ≤ length c.args.bytes.now = piece_fits c.loop-written.written c.in-Ok.count c.args.bytes.now c.loop-written.invariant.within c.in-Ok.ensures.bound in
    record {
      so_far = appends_more _ (g.W.Write.contents c.loop-written.writer) _ _ _ _ c.loop-written.invariant.so_far c.in-Ok.ensures.bytes (pieces c.loop-written.written c.in-Ok.count c.args.bytes.now);
      within = within;
    }
