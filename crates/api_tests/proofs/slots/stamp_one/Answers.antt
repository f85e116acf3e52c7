use Rattle.gs_slots.specs.declared.state.SlotState.TheVariants.{Stamped}
use Rattle.std.proofs.Common.{false}
use Rattle.gs_slots.specs.Flags.{single}
use Rattle.gs_slots.specs.SlotMut.{cpu_of}
use Rattle.api_tests.proofs.Stamps.{set_stamped}
use Rattle.api_tests.proofs.slots.stamp_one.Goals as goal

pub returns-clause-ok : goal.returns-clause-ok
returns-clause-ok c =
    set_stamped c.stamp.result c.args.region.now c.args.cpu (cpu_of c.slot.result) c.stamp.new.self.0 (Stamped (record { generation = 1; tid = c.args.tid; tseq = 2; flags = single false })) c.slot.ensures.cpu c.stamp.ensures.stamped
