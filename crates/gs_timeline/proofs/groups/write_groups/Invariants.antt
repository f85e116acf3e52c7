use Rattle.std.proofs.Common.{[]}
use Rattle.gs_timeline.specs.Sent.{Sends}
use Rattle.gs_timeline.proofs.groups.write_groups.Given as goal

abbrev pub invariant-loop-number : goal.invariant-loop-number
invariant-loop-number g l = Sends [] (g.W.Write.contents l.fn.writer) (g.W.Write.contents l.writer) l.fn.out.settled l.out.settled
