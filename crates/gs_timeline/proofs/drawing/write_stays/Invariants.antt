use Rattle.std.proofs.Common.{flat_map, map, take}
use Rattle.gs_timeline.specs.Bars.{pieces_of, scale}
use Rattle.gs_timeline.specs.Lives.{born, class_among}
use Rattle.gs_timeline.specs.Sent.{Sends}
use Rattle.gs_timeline.proofs.drawing.write_stays.Given as goal

abbrev pub invariant-loop-stay : goal.invariant-loop-stay
invariant-loop-stay g l = Sends (flat_map (pieces_of (scale l.drawn.part.now) (class_among (map born l.drawn.all.now.lives.items)) l.drawn.all.now.endings) (take l.stay-index l.stays)) (g.W.Write.contents l.fn.writer) (g.W.Write.contents l.writer) l.fn.out.settled l.out.settled
