use Rattle.std.proofs.Common.{◌∙◌, ap, ℕ, ◌+◌, arith}
use Rattle.gs_status.specs.Masks.{has}
use Rattle.gs_status.proofs.Laws.{has_shifted}
use Rattle.gs_usage.proofs.Bits.{none_later}
use Rattle.gs_usage.proofs.sets.in_block.Goals as goal

pub returns-then-first-lt-MOST_CPUS : goal.returns-then-first-lt-MOST_CPUS
returns-then-first-lt-MOST_CPUS c = λ i. has_shifted c.bits-bits.result c.args.first i ∙ ap (λ (m : ℕ). has m (c.args.first + i)) c.bits-bits.ensures

pub returns-else-first-lt-MOST_CPUS : goal.returns-else-first-lt-MOST_CPUS
returns-else-first-lt-MOST_CPUS c = λ i. none_later c.bits-bits.result c.args.first i c.bits-bits.type_inv (omega (arith, c.if-first-lt-MOST_CPUS.false)) ∙ ap (λ (m : ℕ). has m (c.args.first + i)) c.bits-bits.ensures
