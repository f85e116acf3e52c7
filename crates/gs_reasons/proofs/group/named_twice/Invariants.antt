use Rattle.std.proofs.Common.{◌≡◌, length}
use Rattle.gs_reasons.specs.Group.{named_twice}
use Rattle.gs_reasons.proofs.group.named_twice.Given as goal

abbrev pub invariant-landings : goal.invariant-landings
invariant-landings l = named_twice l.rest ≡ named_twice l.fn.landings

abbrev pub decreases-landings : goal.decreases-landings
decreases-landings l = length l.rest
