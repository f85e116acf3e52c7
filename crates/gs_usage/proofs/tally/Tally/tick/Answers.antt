use Rattle.std.proofs.Common.{◌≡◌, ◌∙◌, ap, ℕ, arith}
use Rattle.std.specs.Prelude.{bit_and}
use Rattle.std.specs.Int.{bit_at}
use Rattle.std.proofs.lemmas.Nat.Bits.{bit_at-zero, bit_at_and}
use Rattle.gs_usage.proofs.tally.Tally.tick.Goals as goal

pub returns-then-set-ne0-clause-ticks : goal.returns-then-set-ne0-clause-ticks
returns-then-set-ne0-clause-ticks c = λ i lt.
    let more = c.add_once.ensures.totals i lt in
    let both = bit_at_and c.args.self.now.set c.args.ticked i in
    omega (arith, more, both)

pub returns-else-set-ne0-clause-ticks : goal.returns-else-set-ne0-clause-ticks
returns-else-set-ne0-clause-ticks c = λ i lt.
    let both = bit_at_and c.args.self.now.set c.args.ticked i in
    let none : bit_at (bit_and c.args.self.now.set c.args.ticked) i ≡ 0 = ap (λ (m : ℕ). bit_at m i) (let e = c.if-set-ne0.false in omega (arith, e)) ∙ bit_at-zero i in
    omega (arith, none, both)
