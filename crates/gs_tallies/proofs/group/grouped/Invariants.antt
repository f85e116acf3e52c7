use Rattle.std.proofs.Common.{◌≡◌, ◌<◌, ◌==◌, ℕ, get_or, length, take}
use Rattle.std.specs.List.{filter}
use Rattle.gs_tallies.proofs.group.grouped.Given as goal

abbrev pub invariant-loop-thing : goal.invariant-loop-thing
invariant-loop-thing g l = record {
  count : length l.all.items ≡ l.count;
  each : (p : ℕ) (d : g.row.D.Denot) → p < l.count → g.D.Draft.drafts (filter (λ thing. g.G.Grouping.group l.grouping thing == p) (take l.thing-index l.things)) (get_or l.all.items p d);
}
