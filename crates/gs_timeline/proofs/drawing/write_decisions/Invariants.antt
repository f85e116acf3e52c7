use Rattle.std.proofs.Common.{[]}
use Rattle.gs_timeline.specs.Sent.{Sends}
use Rattle.gs_timeline.proofs.drawing.write_decisions.Given as goal

abbrev pub invariant-loop-cpu : goal.invariant-loop-cpu
invariant-loop-cpu g l = Sends [] (g.W.Write.contents l.fn.writer) (g.W.Write.contents l.writer) l.fn.out.settled l.out.settled
