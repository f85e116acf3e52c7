use Rattle.std.proofs.Common.{◌≡◌}
use Rattle.gs_timeline.proofs.groups.write_title.Given as goal

abbrev pub invariant-loop-place : goal.invariant-loop-place
invariant-loop-place l = l.out.settled ≡ l.fn.out.settled
