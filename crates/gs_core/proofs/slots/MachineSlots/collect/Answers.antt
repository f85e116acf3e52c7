use Rattle.std.proofs.Common.{◌∙◌, Ok, map, ap}
use Rattle.gs_slots.specs.State.{collected}
use Rattle.gs_slots.proofs.Laws.{told_is}
use Rattle.gs_core.proofs.Regions.{collected_region, read_told}
use Rattle.gs_core.proofs.slots.MachineSlots.collect.Goals as goal

pub invariant_of-self : goal.invariant_of-self
invariant_of-self g c = read_told c.collect.new.region (map collected c.args.self.now) (collected_region c.self.inside.region c.collect.new.region c.args.self.now (c.self.invariant ∙ ap (map Ok) c.self.view_is) c.collect.ensures.region)

pub returns-clause-slots : goal.returns-clause-slots
returns-clause-slots g c = told_is 0 c.collect.new.region (map collected c.args.self.now) (collected_region c.self.inside.region c.collect.new.region c.args.self.now (c.self.invariant ∙ ap (map Ok) c.self.view_is) c.collect.ensures.region)
