use Rattle.std.proofs.Common.{◌≡◌, length}
use Rattle.gs_reasons.specs.Group.{cpu_naming}
use Rattle.gs_reasons.proofs.group.cpu_naming.Given as goal

abbrev pub invariant-landings : goal.invariant-landings
invariant-landings l = cpu_naming l.tid l.rest ≡ cpu_naming l.fn.tid l.fn.landings

abbrev pub decreases-landings : goal.decreases-landings
decreases-landings l = length l.rest
