use Rattle.std.proofs.Common.{◌≡◌, ◌<◌, ◌-◌, ◌==◌, ℕ, drop, get_or, length}
use Rattle.std.specs.List.{filter}
use Rattle.gs_tallies.specs.Chains.{AreRanks, Follows}
use Rattle.gs_tallies.proofs.chains.chained.Given as goal

abbrev pub invariant-loop-behind : goal.invariant-loop-behind
invariant-loop-behind g l = record {
  count : length l.firsts.items ≡ l.count;
  ranks : AreRanks l.behind l.firsts.items l.nexts.items;
  lead : (p : ℕ) → p < l.count → Follows l.things l.nexts.items (get_or l.firsts.items p 0) (filter (λ thing. g.G.Grouping.group l.grouping thing == p) (drop (length l.things - l.behind) l.things));
}
