use Rattle.std.proofs.Common.{◌∙◌, Ok, map, ap, length, replicate}
use Rattle.gs_slots.specs.declared.state.SlotState.TheVariants.{Idle}
use Rattle.gs_slots.proofs.Laws.{told_is}
use Rattle.gs_core.proofs.Regions.{count_is, idle_region, read_told}
use Rattle.gs_core.proofs.slots.MachineSlots.clear.Goals as goal

pub invariant_of-self : goal.invariant_of-self
invariant_of-self c =
    let n = length c.args.self.now in
    read_told c.clear.new.self (replicate n Idle) (idle_region c.clear.new.self (length c.self.inside.region) n c.clear.ensures (count_is c.self.inside.region c.args.self.now (c.self.invariant ∙ ap (map Ok) c.self.view_is)))

pub returns : goal.returns
returns c =
    let n = length c.args.self.now in
    told_is 0 c.clear.new.self (replicate n Idle) (idle_region c.clear.new.self (length c.self.inside.region) n c.clear.ensures (count_is c.self.inside.region c.args.self.now (c.self.invariant ∙ ap (map Ok) c.self.view_is)))
