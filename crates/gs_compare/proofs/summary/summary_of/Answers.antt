use Rattle.std.proofs.Common.{rules, sym, subst, ℕ, List}
use Rattle.std.specs.List.Sorted.{IsNonDecreasingBy, IsPermutation}
use Rattle.std.proofs.lemmas.List.Sorted.{IsNonDecreasingBy-from_sort}
use Rattle.gs_compare.specs.Summaries.{values_of}
use Rattle.gs_compare.proofs.summary.summary_of.Goals as goal

abbrev itself : ℕ → ℕ
itself x = x

pub returns : goal.returns
returns c =
    let values : List ℕ = values_of c.args.key c.args.runs.now in
    let rising : List ℕ = c.deref.result.now in
    let moved : IsPermutation values rising =
    subst (IsPermutation values) (sym c.deref.ensures.value) (subst (λ (xs : List ℕ). IsPermutation xs c.sort.new.self.items) c.in_ok-values.ensures c.sort.ensures.permutation) in
    let sorted : IsNonDecreasingBy itself rising = subst (IsNonDecreasingBy itself) (sym c.deref.ensures.value) (IsNonDecreasingBy-from_sort itself c.sort.new.self.items c.in_ok-sort.ensures.sorted) in
    record { some = record { rising = rising; all = moved; sorted = sorted; shows = c.summary_in.ensures }; none = search rules }
