use Rattle.std.proofs.Common.{◌≡◌, ◌<◌, ℕ, [], get_or, length}
use Rattle.gs_tallies.proofs.group.empty_groups.Given as goal

abbrev pub invariant-loop : goal.invariant-loop
invariant-loop g l = record {
  count : length l.all.items ≡ l.counter;
  each : (p : ℕ) (d : g.row.D.Denot) → p < l.counter → g.D.Draft.drafts [] (get_or l.all.items p d);
}
