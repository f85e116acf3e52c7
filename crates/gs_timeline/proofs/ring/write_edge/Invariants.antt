use Rattle.std.proofs.Common.{[]}
use Rattle.gs_timeline.specs.Sent.{Sends}
use Rattle.gs_timeline.proofs.ring.write_edge.Given as goal

abbrev pub invariant-loop-fill : goal.invariant-loop-fill
invariant-loop-fill g l = Sends [] (g.W.Write.contents l.fn.writer) (g.W.Write.contents l.writer) l.fn.out.settled l.out.settled
