use Rattle.std.proofs.Common.{refl, replicate}
use Rattle.gs_slots.specs.declared.state.SlotState.TheVariants.{Idle}
use Rattle.gs_slots.proofs.Laws.{told_is}
use Rattle.gs_core.proofs.Regions.{idle_region, read_told}
use Rattle.gs_core.proofs.slots.MachineSlots.new.Goals as goal

pub invariant_of-result : goal.invariant_of-result
invariant_of-result c = read_told c.in_ok-region.region (replicate c.args.cpus Idle) (idle_region c.in_ok-region.region c.args.cpus c.args.cpus c.in_ok-region.ensures refl)

pub returns : goal.returns
returns c = told_is 0 c.in_ok-region.region (replicate c.args.cpus Idle) (idle_region c.in_ok-region.region c.args.cpus c.args.cpus c.in_ok-region.ensures refl)
