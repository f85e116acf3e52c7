use Rattle.std.proofs.Common.{◌<◌, ◌∙◌, ◌+◌, ◌*◌, ◌^◌, ap, sym, subst, ℕ, List, length, suc, ◌∷◌, rules}
use Rattle.std.specs.Prelude.{bit_and, bit_xor}
use Rattle.std.specs.Int.{bit_at}
use Rattle.gs_usage.specs.Counting.{counted}
use Rattle.gs_usage.proofs.Counting.{carried_digit, room_left}
use Rattle.gs_usage.proofs.counter.+carry.Goals as goal

pub carry-requires : goal.carry-requires
carry-requires t c = (
  search rules,
  λ i lt.
      let w = c.in-Some.word.now in
      let a = counted c.in-Some.others.now i in
      let fits : counted (w ∷ c.in-Some.others.now) i + bit_at c.args.carried i < 2 ^ suc (length c.in-Some.others.now) =
      subst (λ (ws : List ℕ). counted ws i + bit_at c.args.carried i < 2 ^ length ws) c.in-Some.ensures.cases.0 (c.requires i lt) in
      room_left (bit_at (bit_xor w c.args.carried) i) (a + bit_at (bit_and w c.args.carried) i) (length c.in-Some.others.now)
      (subst (λ (m : ℕ). m < 2 ^ suc (length c.in-Some.others.now)) (carried_digit w c.args.carried i a) fits),
)

pub returns-in-Some-clause-counts : goal.returns-in-Some-clause-counts
returns-in-Some-clause-counts t c = λ i lt.
    let w = c.in-Some.word.now in
    ap (λ (m : ℕ). bit_at (bit_xor w c.args.carried) i + 2 * m) (c.carry.ensures.counts i lt)
    ∙ (sym (carried_digit w c.args.carried i (counted c.in-Some.others.now i)) ∙ sym (ap (λ (ws : List ℕ). counted ws i + bit_at c.args.carried i) c.in-Some.ensures.cases.0))
