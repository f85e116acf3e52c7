use Rattle.gs_explain.proofs.Retelling.{begun_then, moves_all, on_err}
use Rattle.gs_explain.proofs.pieces.add_long.Goals as goal

pub returns-in_err-write_out-clause-begun : goal.returns-in_err-write_out-clause-begun
returns-in_err-write_out-clause-begun g c =
    on_err c.from_residual-in_err-write_out.result
    (begun_then (g.W.Write.contents c.args.writer.now) (g.W.Write.contents c.send.new.writer) (g.W.Write.contents c.write_out.new.writer) c.args.block.now.items c.args.bytes.now c.in_ok-send.ensures.sent c.in_err-write_out.ensures.err)

pub returns-clause-moved : goal.returns-clause-moved
returns-clause-moved g c = moves_all (g.W.Write.contents c.args.writer.now) (g.W.Write.contents c.send.new.writer) (g.W.Write.contents c.write_out.new.writer) c.args.block.now.items c.args.bytes.now c.send.new.block.items c.in_ok-send.ensures.sent c.in_ok-write_out.ensures.ok c.in_ok-send.ensures.empty
