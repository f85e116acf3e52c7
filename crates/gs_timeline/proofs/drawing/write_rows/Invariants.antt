use Rattle.std.proofs.Common.{flat_map, map}
use Rattle.gs_timeline.specs.Bars.{pieces_of, scale}
use Rattle.gs_timeline.specs.Lives.{born, class_among}
use Rattle.gs_timeline.specs.Sent.{Sends}
use Rattle.gs_timeline.specs.Stays.{all_stays}
use Rattle.gs_timeline.proofs.drawing.write_rows.Given as goal

abbrev pub invariant-loop-cpu : goal.invariant-loop-cpu
invariant-loop-cpu g l = Sends (flat_map (pieces_of (scale l.drawn.part.now) (class_among (map born l.drawn.all.now.lives.items)) l.drawn.all.now.endings) (all_stays l.drawn.all.now.endings l.cpu)) (g.W.Write.contents l.fn.writer) (g.W.Write.contents l.writer) l.fn.out.settled l.out.settled
