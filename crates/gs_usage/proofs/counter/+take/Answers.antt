use Rattle.std.proofs.Common.{◌≤◌, ap, subst, ℕ, List, rules, arith}
use Rattle.std.specs.Int.{bit_at}
use Rattle.gs_usage.specs.Counting.{counted}
use Rattle.gs_usage.proofs.Counting.{taken_digit, taken_rest}
use Rattle.gs_usage.proofs.counter.+take.Goals as goal

pub take-requires : goal.take-requires
take-requires t c = (
  search rules,
  λ i lt. taken_rest c.in-Some.word.now c.args.set i (counted c.in-Some.others.now i) (subst (λ (ws : List ℕ). bit_at c.args.set i ≤ counted ws i) c.in-Some.ensures.cases.0 (c.requires i lt)),
)

pub returns-in-Some-clause-counts : goal.returns-in-Some-clause-counts
returns-in-Some-clause-counts t c = λ i lt.
    let digit = taken_digit c.in-Some.word.now c.args.set i in
    let rest = c.take.ensures.counts i lt in
    let whole = ap (λ (ws : List ℕ). counted ws i) c.in-Some.ensures.cases.0 in
    omega (arith, digit, rest, whole)
