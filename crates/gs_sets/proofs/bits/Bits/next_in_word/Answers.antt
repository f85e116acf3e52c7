use Rattle.std.proofs.Common.{ap, sym, ◌∙◌, arith}
use Rattle.gs_status.specs.declared.bit_word.TheConstants.{WORD_BITS}
use Rattle.gs_status.specs.Masks.{has, least}
use Rattle.gs_sets.proofs.BitWords.{first_left, left_within}
use Rattle.gs_sets.proofs.bits.Bits.next_in_word.Goals as goal

pub overflow_add-result : goal.overflow_add-result
overflow_add-result c =
    let left = c.left_of_word.ensures in
    let there = ap (λ m. has m c.in_ok-ahead.ahead) (sym left.left) ∙ c.in_ok-ahead.ensures.is_in in
    omega (arith, left_within c.args.self.now c.args.from c.in_ok-ahead.ahead left.fits there, c.ranges.from.fits)

pub returns-clause-first : goal.returns-clause-first
returns-clause-first c =
    let left = c.left_of_word.ensures in
    let there = ap (λ m. has m c.in_ok-ahead.ahead) (sym left.left) ∙ c.in_ok-ahead.ensures.is_in in
    let first = c.in_ok-ahead.ensures.least ∙ ap (λ m. least (has m) WORD_BITS) left.left in
    first_left c.args.self.now c.args.from c.in_ok-ahead.ahead first left.fits there
