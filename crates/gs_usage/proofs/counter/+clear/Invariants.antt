use Rattle.std.proofs.Common.{length}
use Rattle.gs_usage.proofs.counter.+clear.Given as goal

-- the digits that are left
abbrev pub decreases-clear : goal.decreases-clear
decreases-clear l = length l.words.now
