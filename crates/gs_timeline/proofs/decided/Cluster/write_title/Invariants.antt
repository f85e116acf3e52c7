use Rattle.std.proofs.Common.{◌≡◌}
use Rattle.gs_timeline.proofs.decided.Cluster.write_title.Given as goal

abbrev pub invariant-loop-index : goal.invariant-loop-index
invariant-loop-index l = l.out.settled ≡ l.fn.out.settled
