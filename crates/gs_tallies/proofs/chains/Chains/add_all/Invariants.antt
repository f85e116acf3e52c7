use Rattle.std.proofs.Common.{◌≤◌, List, [], get_or, length}
use Rattle.gs_tallies.specs.Chains.{Follows}
use Rattle.gs_tallies.proofs.Links.{Walked}
use Rattle.gs_tallies.proofs.chains.Chains.add_all.Given as goal

abbrev pub invariant-things : goal.invariant-things
invariant-things g l = record {
  within : l.rank ≤ length l.things;
  walked : (xs : List g.row.T.Denot) → g.D.Draft.drafts [] l.fn.draft → Follows l.things l.self.nexts.items (get_or l.self.firsts.items l.group 0) xs → Walked g.D.Draft.drafts l.things l.self.nexts.items l.rank xs l.draft;
}

abbrev pub decreases-things : goal.decreases-things
decreases-things g l = l.rank
