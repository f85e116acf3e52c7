use Rattle.std.proofs.Common.{◌≡◌, Ok, ℕ, IfOk, subst, true}
use Rattle.gs_slots.specs.declared.flags.Flags.{Flags}
use Rattle.gs_slots.specs.declared.state.SlotState.{SlotState}
use Rattle.gs_slots.specs.declared.state.SlotState.TheVariants.{Stamped}
use Rattle.gs_slots.specs.Flags.{single}
use Rattle.gs_slots.specs.Reading.{state_in}
use Rattle.gs_slots.specs.SlotMut.{cpu_of}
use Rattle.api_tests.proofs.Stamps.{set_numbered}
use Rattle.api_tests.proofs.agent.stamp_one.Goals as goal

pub returns-clause-ok : goal.returns-clause-ok
returns-clause-ok c =
    let stamped : Flags → ℕ → SlotState = λ flags n. Stamped (record { generation = c.args.role.now.generation; tid = c.args.tid; tseq = n; flags = flags }) in
    set_numbered c.stamp.result c.args.region.now c.args.cpu (cpu_of c.slot.result) c.stamp.new.slot.0 (stamped (single true)) c.slot.ensures.cpu
    (subst (λ (flags : Flags). IfOk c.stamp.result (λ n. state_in (cpu_of c.slot.result) c.stamp.new.slot.0 ≡ Ok (stamped flags n))) c.single.ensures c.stamp.ensures.stamped)
