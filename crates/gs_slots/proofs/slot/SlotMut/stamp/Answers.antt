use Rattle.std.proofs.Common.{◌∙◌, refl, sym}
use Rattle.gs_slots.specs.declared.state.SlotState.TheVariants.{Stamped}
use Rattle.gs_slots.specs.SlotMut.{bytes_of, cpu_of}
use Rattle.gs_slots.proofs.Exact.{spelt_read}
use Rattle.gs_slots.proofs.Busy.{quiet_read, read_quiet}
use Rattle.gs_slots.proofs.slot.SlotMut.stamp.Goals as goal

pub returns-clause-stamped : goal.returns-clause-stamped
returns-clause-stamped c =
    spelt_read (cpu_of c.args.self) c.write_stamped.new.out (Stamped (record { generation = c.args.generation; tid = c.args.tid; tseq = c.args.tseq; flags = c.args.flags }))
    (refl, c.write_stamped.ensures.numbers) c.write_stamped.ensures.bytes

pub returns-then-is_busy-clause-exact : goal.returns-then-is_busy-clause-exact
returns-then-is_busy-clause-exact c = (
  λ e. absurd cc,
  λ idle. sym (read_quiet (cpu_of c.args.self) (bytes_of c.args.self) idle) ∙ (sym c.is_busy.ensures ∙ c.if-is_busy.true),
)

pub returns-clause-exact : goal.returns-clause-exact
returns-clause-exact c = (λ e. quiet_read (cpu_of c.args.self) (bytes_of c.args.self) (sym c.is_busy.ensures ∙ c.if-is_busy.false), λ idle. refl)
