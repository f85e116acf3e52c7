use Rattle.std.proofs.Common.{take}
use Rattle.gs_hints.specs.Nearest.{IsBest}
use Rattle.gs_hints.proofs.near.nearest.Given as goal

abbrev pub invariant-loop-other : goal.invariant-loop-other
invariant-loop-other l = IsBest l.word (take l.other-index l.others) l.best
