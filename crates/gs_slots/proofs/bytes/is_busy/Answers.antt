use Rattle.std.proofs.Common.{ap, not, ◌∙◌, arith}
use Rattle.gs_slots.proofs.Busy.{busy_by_test}
use Rattle.gs_slots.proofs.bytes.is_busy.Goals as goal

pub returns : goal.returns
returns c = ap not c.is_idle.ensures ∙ busy_by_test c.args.bytes.now (λ i. omega (arith, c.type_inv.bytes i)) c.requires
