use Rattle.std.proofs.Common.{◌≡◌, ◌∙◌, ap, sym, subst, ℕ, List, length, nat_lt, arith, rules}
use Rattle.std.specs.List.{count_by}
use Rattle.std.specs.List.Sorted.{IsNonDecreasingBy}
use Rattle.std.proofs.lemmas.List.Sorted.{IsPartitionPoint-from_clause, IsPartitionedBy-ltb}
use Rattle.gs_turns.proofs.Ticking.{counted, rising_places}
use Rattle.gs_turns.proofs.ticks.Ticks.before.Goals as goal

pub returns : goal.returns
returns c = λ h cpu is.
    let xs : List ℕ = c.deref.result.now in
    let same : xs ≡ c.args.self.now = cc in
    let up : IsNonDecreasingBy (λ (p : ℕ). p) xs = subst (IsNonDecreasingBy (λ (p : ℕ). p)) (sym is ∙ sym same) (rising_places h cpu (length h)) in
    counted (λ (p : ℕ). nat_lt p c.args.place) xs c.partition_point.result (omega arith) (IsPartitionPoint-from_clause (λ (p : ℕ). nat_lt p c.args.place) xs c.partition_point.result c.partition_point.ensures.partitioned (IsPartitionedBy-ltb (λ (p : ℕ). p) xs c.args.place up) (λ a r q k. search rules))
    ∙ ap (count_by (λ (p : ℕ). nat_lt p c.args.place)) same
