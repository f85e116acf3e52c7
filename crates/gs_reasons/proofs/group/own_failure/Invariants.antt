use Rattle.std.proofs.Common.{◌≡◌, length}
use Rattle.gs_reasons.specs.Group.{own_failure}
use Rattle.gs_reasons.proofs.group.own_failure.Given as goal

abbrev pub invariant-landings : goal.invariant-landings
invariant-landings l = own_failure l.rest ≡ own_failure l.fn.landings

abbrev pub decreases-landings : goal.decreases-landings
decreases-landings l = length l.rest
