use Rattle.std.proofs.Common.{◌≡◌, take}
use Rattle.gs_help.specs.About.{words_of}
use Rattle.gs_help.proofs.about.nearest_word.Given as goal

abbrev pub invariant-loop-row : goal.invariant-loop-row
invariant-loop-row l = l.words.items ≡ words_of (take l.row-index l.rows)
