use Rattle.std.proofs.Common.{ap, ◌∙◌}
use Rattle.gs_status.specs.Masks.{has}
use Rattle.gs_status.proofs.Halves.{high_changed, in_high, in_low, low_changed}
use Rattle.gs_status.proofs.mask.Mask.without.Goals as goal

pub returns-then-cpu-lt-WORD_BITS-clause-here : goal.returns-then-cpu-lt-WORD_BITS-clause-here
returns-then-cpu-lt-WORD_BITS-clause-here c =
    in_low c.self.inside.high c.without.result c.args.cpu c.without.ensures.fits c.if-cpu-lt-WORD_BITS.true ∙ c.without.ensures.here

pub returns-then-cpu-lt-WORD_BITS-clause-others : goal.returns-then-cpu-lt-WORD_BITS-clause-others
returns-then-cpu-lt-WORD_BITS-clause-others c = λ n other.
    low_changed c.self.inside.high c.self.inside.low c.without.result c.args.cpu c.self.invariant c.without.ensures.fits c.without.ensures.others n other
    ∙ ap (λ m. has m n) c.self.view_is

pub returns-else-cpu-lt-WORD_BITS-clause-here : goal.returns-else-cpu-lt-WORD_BITS-clause-here
returns-else-cpu-lt-WORD_BITS-clause-here c =
    in_high c.without-else-cpu-lt-WORD_BITS.result c.self.inside.low c.args.cpu c.self.invariant c.if-cpu-lt-WORD_BITS.false
    ∙ c.without-else-cpu-lt-WORD_BITS.ensures.here

pub returns-else-cpu-lt-WORD_BITS-clause-others : goal.returns-else-cpu-lt-WORD_BITS-clause-others
returns-else-cpu-lt-WORD_BITS-clause-others c = λ n other.
    high_changed c.self.inside.high c.without-else-cpu-lt-WORD_BITS.result c.self.inside.low c.args.cpu c.self.invariant c.if-cpu-lt-WORD_BITS.false
    c.without-else-cpu-lt-WORD_BITS.ensures.others n other
    ∙ ap (λ m. has m n) c.self.view_is
