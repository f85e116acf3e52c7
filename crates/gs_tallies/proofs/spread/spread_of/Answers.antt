use Rattle.std.proofs.Common.{ℕ}
use Rattle.std.proofs.lemmas.List.Sorted.{IsNonDecreasingBy-from_sort}
use Rattle.gs_tallies.proofs.Ranks.{spread_reordered}
use Rattle.gs_tallies.proofs.spread.spread_of.Goals as goal

abbrev itself : ℕ → ℕ
itself x = x

pub spread_in-requires-clause-rising : goal.spread_in-requires-clause-rising
spread_in-requires-clause-rising c = IsNonDecreasingBy-from_sort itself c.sort_unstable.new.self c.sort_unstable.ensures.sorted

pub returns-clause-some : goal.returns-clause-some
returns-clause-some c = spread_reordered c.args.numbers.now c.sort_unstable.new.self c.spread_in.result c.sort_unstable.ensures.permutation c.spread_in.ensures
