use Rattle.std.proofs.Common.{ap, sym, ◌∙◌}
use Rattle.gs_status.specs.Masks.{has}
use Rattle.gs_status.proofs.Halves.{in_high, in_low}
use Rattle.gs_status.proofs.mask.Mask.has.Goals as goal

pub returns-then-cpu-lt-WORD_BITS : goal.returns-then-cpu-lt-WORD_BITS
returns-then-cpu-lt-WORD_BITS c =
    c.has.ensures
    ∙ (sym (in_low c.self.inside.high c.self.inside.low c.args.cpu c.self.invariant c.if-cpu-lt-WORD_BITS.true) ∙ ap (λ m. has m c.args.cpu) c.self.view_is)

pub returns-else-cpu-lt-WORD_BITS : goal.returns-else-cpu-lt-WORD_BITS
returns-else-cpu-lt-WORD_BITS c =
    c.has-else-cpu-lt-WORD_BITS.ensures
    ∙ (sym (in_high c.self.inside.high c.self.inside.low c.args.cpu c.self.invariant c.if-cpu-lt-WORD_BITS.false) ∙ ap (λ m. has m c.args.cpu) c.self.view_is)
