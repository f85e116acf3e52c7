use Rattle.std.proofs.Common.{◌≤◌, ◌∙◌, ap, sym, subst, ℕ, List, max, min, rules}
use Rattle.std.specs.Int.{bit_at}
use Rattle.gs_usage.specs.Counting.{counted}
use Rattle.gs_usage.proofs.Counting.{marked_digit}
use Rattle.gs_usage.proofs.counter.+marked.Goals as goal

pub marked-requires : goal.marked-requires
marked-requires t c = (
  search rules,
  λ i lt.
      subst (λ (m : ℕ). m ≤ bit_at c.args.all i)
      (ap (λ (ws : List ℕ). max (bit_at c.args.others i) (min 1 (counted ws i))) c.in-Some.ensures.cases.0 ∙ sym (marked_digit c.in-Some.word.now c.args.others i (counted c.in-Some.rest.now i)))
      (c.requires i lt),
)

pub returns-in-Some : goal.returns-in-Some
returns-in-Some t c = λ i lt.
    c.marked.ensures i lt
    ∙ (marked_digit c.in-Some.word.now c.args.others i (counted c.in-Some.rest.now i)
    ∙ sym (ap (λ (ws : List ℕ). max (bit_at c.args.others i) (min 1 (counted ws i))) c.in-Some.ensures.cases.0))
