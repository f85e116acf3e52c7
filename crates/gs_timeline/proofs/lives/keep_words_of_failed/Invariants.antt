use Rattle.std.proofs.Common.{◌≡◌, map}
use Rattle.gs_timeline.specs.Lives.{born}
use Rattle.gs_timeline.proofs.lives.keep_words_of_failed.Given as goal

abbrev pub invariant-loop-mark : goal.invariant-loop-mark
invariant-loop-mark l = map born l.lives ≡ map born l.fn.lives
