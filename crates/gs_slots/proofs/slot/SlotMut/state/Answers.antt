use Rattle.gs_slots.specs.SlotMut.{bytes_of, cpu_of}
use Rattle.gs_slots.proofs.Exact.{spelt_if_read}
use Rattle.gs_slots.proofs.slot.SlotMut.state.Goals as goal

pub returns-clause-spelt : goal.returns-clause-spelt
returns-clause-spelt c = spelt_if_read (cpu_of c.args.self.now) (bytes_of c.args.self.now) c.state_at.result c.state_at.ensures
