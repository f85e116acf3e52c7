use Rattle.std.proofs.Common.{◌≡◌, map}
use Rattle.gs_timeline.specs.Lives.{born}
use Rattle.gs_timeline.proofs.lives.add_stays.Given as goal

abbrev pub invariant-loop-stay : goal.invariant-loop-stay
invariant-loop-stay l = map born l.lives ≡ map born l.fn.lives
