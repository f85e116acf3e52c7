use Rattle.std.proofs.Common.{◌<◌, ◌∙◌, ◌+◌, ◌*◌, ◌/◌, ◌^◌, ap, sym, subst, ℕ, List, length, suc, ◌∷◌, rules}
use Rattle.std.specs.Prelude.{bit_and, bit_or, bit_xor}
use Rattle.std.specs.Int.{bit_at}
use Rattle.gs_usage.specs.Counting.{totalled}
use Rattle.gs_usage.specs.declared.totals.Digit.{Digit}
use Rattle.gs_usage.proofs.Counting.{room_kept, summed_digit}
use Rattle.gs_usage.proofs.totals.+add.Goals as goal

pub add-requires : goal.add-requires
add-requires t c = (
  search rules,
  λ i lt.
      let d = c.in-Some.digit.now in
      let w = d.word in
      let more = c.digit_of-more.result in
      let others = c.in-Some.others.now in
      let a = totalled others i in
      let digit = summed_digit w more c.args.carried d.kept c.args.set c.args.times i a (c.digit_of-more.ensures i) in
      let fits : totalled (d ∷ others) i + c.args.times * bit_at c.args.set i + bit_at c.args.carried i < 2 ^ suc (length others) =
      subst (λ (ds : List Digit). totalled ds i + c.args.times * bit_at c.args.set i + bit_at c.args.carried i < 2 ^ length ds) c.in-Some.ensures.cases.0 (c.requires i lt) in
      room_kept (bit_at (bit_xor (bit_xor w more) c.args.carried) i) (bit_at d.kept i) (a + c.args.times / 2 * bit_at c.args.set i + bit_at (bit_or (bit_and w more) (bit_and c.args.carried (bit_xor w more))) i) (length others)
      (subst (λ (m : ℕ). m < 2 ^ suc (length others)) digit fits),
)

pub returns-in-Some-clause-totals : goal.returns-in-Some-clause-totals
returns-in-Some-clause-totals t c = λ i lt.
    let d = c.in-Some.digit.now in
    let w = d.word in
    let more = c.digit_of-more.result in
    let digit = summed_digit w more c.args.carried d.kept c.args.set c.args.times i (totalled c.in-Some.others.now i) (c.digit_of-more.ensures i) in
    ap (λ (m : ℕ). bit_at (bit_xor (bit_xor w more) c.args.carried) i + bit_at d.kept i + 2 * m) (c.add.ensures.totals i lt)
    ∙ (sym digit ∙ sym (ap (λ (ds : List Digit). totalled ds i + c.args.times * bit_at c.args.set i + bit_at c.args.carried i) c.in-Some.ensures.cases.0))
