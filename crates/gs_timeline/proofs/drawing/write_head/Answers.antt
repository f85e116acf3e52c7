use Rattle.std.proofs.lemmas.Result.{on_ok_weaker}
use Rattle.gs_timeline.proofs.drawing.write_head.Goals as goal

pub returns : goal.returns
returns c = on_ok_weaker c.write_counted.result (λ added. (c.write_legend.new.out.settled, added)) c.write_counted.ensures
