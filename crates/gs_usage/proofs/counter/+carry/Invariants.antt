use Rattle.std.proofs.Common.{length}
use Rattle.gs_usage.proofs.counter.+carry.Given as goal

-- the digits that are left
abbrev pub decreases-carry : goal.decreases-carry
decreases-carry l = length l.words.now
