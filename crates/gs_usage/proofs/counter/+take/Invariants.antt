use Rattle.std.proofs.Common.{length}
use Rattle.gs_usage.proofs.counter.+take.Given as goal

-- the digits that are left
abbrev pub decreases-take : goal.decreases-take
decreases-take l = length l.words.now
