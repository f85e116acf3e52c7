use Rattle.std.proofs.Common.{◌≡◌, map}
use Rattle.gs_timeline.specs.Lives.{born}
use Rattle.gs_timeline.proofs.lives.end_lives.Given as goal

abbrev pub invariant-loop-lane : goal.invariant-loop-lane
invariant-loop-lane l = map born l.lives ≡ map born l.fn.lives
