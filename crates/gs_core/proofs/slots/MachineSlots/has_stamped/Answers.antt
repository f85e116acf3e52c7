use Rattle.std.proofs.Common.{◌∙◌, Ok, map, ap}
use Rattle.gs_slots.specs.Reading.{states_in}
use Rattle.gs_slots.proofs.Laws.{stamps_read}
use Rattle.gs_core.proofs.slots.MachineSlots.has_stamped.Goals as goal

pub returns : goal.returns
returns c = c.has_stamped.ensures ∙ stamps_read (states_in 0 c.self.inside.region) c.args.self.now (c.self.invariant ∙ ap (map Ok) c.self.view_is)
