use Rattle.std.proofs.Common.{length}
use Rattle.gs_usage.proofs.totals.+add.Given as goal

-- the digits that are left
abbrev pub decreases-add : goal.decreases-add
decreases-add l = length l.digits.now
