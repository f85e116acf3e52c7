use Rattle.std.proofs.Common.{[]}
use Rattle.gs_timeline.specs.Sent.{Sends}
use Rattle.gs_timeline.proofs.agents.write_reigns.Given as goal

abbrev pub invariant-loop-reign : goal.invariant-loop-reign
invariant-loop-reign g l = Sends [] (g.W.Write.contents l.fn.writer) (g.W.Write.contents l.writer) l.fn.out.settled l.out.settled
