use Rattle.std.proofs.Common.{length}
use Rattle.gs_usage.proofs.totals.+total.Given as goal

-- the digits that are left
abbrev pub decreases-total : goal.decreases-total
decreases-total l = length l.digits.now
