use Rattle.std.proofs.Common.{length}
use Rattle.gs_usage.proofs.totals.+add_once.Given as goal

-- the digits that are left
abbrev pub decreases-add_once : goal.decreases-add_once
decreases-add_once l = length l.digits.now
