use Rattle.std.proofs.Common.{◌∙◌, Ok, map, ap}
use Rattle.gs_core.proofs.Regions.{count_is}
use Rattle.gs_core.proofs.slots.MachineSlots.cpus.Goals as goal

pub returns : goal.returns
returns c = c.cpus.ensures ∙ count_is c.self.inside.region c.args.self.now (c.self.invariant ∙ ap (map Ok) c.self.view_is)
