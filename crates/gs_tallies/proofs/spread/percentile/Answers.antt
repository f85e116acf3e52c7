use Rattle.gs_tallies.specs.Spreads.{percent_of}
use Rattle.gs_tallies.proofs.Ranks.{ranked}
use Rattle.gs_tallies.proofs.spread.percentile.Goals as goal

pub returns : goal.returns
returns c = ranked (percent_of c.args.percent) c.args.rising.now c.rank_of-rank.result c.requires.rising c.rank_of-rank.ensures.some c.rank_of-rank.ensures.within c.rank_of-rank.ensures.enough c.rank_of-rank.ensures.least
