use Rattle.std.proofs.Common.{[]}
use Rattle.gs_timeline.specs.Sent.{Sends}
use Rattle.gs_timeline.proofs.agents.write_pages.Given as goal

abbrev pub invariant-loop-mark : goal.invariant-loop-mark
invariant-loop-mark g l = Sends [] (g.W.Write.contents l.fn.writer) (g.W.Write.contents l.writer) l.fn.out.settled l.out.settled
