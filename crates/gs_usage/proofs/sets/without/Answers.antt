use Rattle.gs_usage.proofs.Bits.{has_minus}
use Rattle.gs_usage.proofs.sets.without.Goals as goal

pub returns : goal.returns
returns c = λ i. has_minus c.args.all c.args.some i
