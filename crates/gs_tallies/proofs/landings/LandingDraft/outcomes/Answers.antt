use Rattle.gs_tallies.proofs.Outcomes.{landed}
use Rattle.gs_tallies.proofs.landings.LandingDraft.outcomes.Goals as goal

pub returns : goal.returns
returns c ls is = landed ls c.args.self.now.counts is.long is.counts
