use Rattle.std.proofs.Common.{length}
use Rattle.gs_usage.proofs.counter.+marked.Given as goal

-- the digits that are left
abbrev pub decreases-marked : goal.decreases-marked
decreases-marked l = length l.words.now
