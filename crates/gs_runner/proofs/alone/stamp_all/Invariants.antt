use Rattle.std.proofs.Common.{◌≡◌, length}
use Rattle.gs_runner.proofs.alone.stamp_all.Given as goal

abbrev pub invariant-loop-choice : goal.invariant-loop-choice
invariant-loop-choice g l = (l.role ≡ record l.initial.role { mind = l.role.mind }) × (length l.region ≡ length l.initial.region)
