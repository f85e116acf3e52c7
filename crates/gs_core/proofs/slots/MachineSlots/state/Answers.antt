use Rattle.std.proofs.Common.{◌∙◌, Ok, map, ap, sym, Some, arith}
use Rattle.gs_core.proofs.Regions.{count_is, or_idle, slot_state}
use Rattle.gs_core.proofs.slots.MachineSlots.state.Goals as goal

pub state-requires : goal.state-requires
state-requires c = omega (arith, c.requires, count_is c.self.inside.region c.args.self.now (c.self.invariant ∙ ap (map Ok) c.self.view_is))

pub returns : goal.returns
returns c = slot_state c.self.inside.region c.args.self.now c.args.cpu c.state.result (c.self.invariant ∙ ap (map Ok) c.self.view_is) c.state.ensures ∙ ap Some (or_idle c.state.result ∙ sym c.unwrap_or.ensures)
