use Rattle.std.proofs.Common.{◌≡◌}
use Rattle.gs_perfetto.proofs.walk.Walk.end_all.Given as goal

abbrev pub invariant-loop-cpu : goal.invariant-loop-cpu
invariant-loop-cpu l = l.out.settled ≡ l.fn.out.settled
