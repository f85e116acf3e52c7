use Rattle.std.proofs.Common.{true, false, ◌∙◌, arith, sym, refl}
use Rattle.gs_slots.specs.Reading.{fields_in}
use Rattle.gs_slots.specs.Spelling.{can_hold}
use Rattle.gs_slots.proofs.Exact.{read_by_tests}
use Rattle.gs_slots.proofs.bytes.state_at.Goals as goal

pub returns-then-not-passes : goal.returns-then-not-passes
returns-then-not-passes c =
    read_by_tests c.args.cpu c.args.bytes.now (fields_in c.args.bytes.now) false (can_hold (fields_in c.args.bytes.now)) (λ i. omega (arith, c.type_inv.bytes i)) c.requires c.ranges.cpu.fits (sym c.if-not-passes.true ∙ c.passes.ensures) refl refl

pub returns-then-can_hold : goal.returns-then-can_hold
returns-then-can_hold c =
    read_by_tests c.args.cpu c.args.bytes.now c.fields_at-fields.result true true (λ i. omega (arith, c.type_inv.bytes i)) c.requires c.ranges.cpu.fits (sym c.if-not-passes.false ∙ c.passes.ensures) c.fields_at-fields.ensures (sym c.if-can_hold.true ∙ c.can_hold.ensures)

pub returns-else-can_hold : goal.returns-else-can_hold
returns-else-can_hold c =
    read_by_tests c.args.cpu c.args.bytes.now c.fields_at-fields.result true false (λ i. omega (arith, c.type_inv.bytes i)) c.requires c.ranges.cpu.fits (sym c.if-not-passes.false ∙ c.passes.ensures) c.fields_at-fields.ensures (sym c.if-can_hold.false ∙ c.can_hold.ensures)
