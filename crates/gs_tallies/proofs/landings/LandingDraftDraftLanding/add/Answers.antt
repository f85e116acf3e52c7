use Rattle.std.proofs.Common.{◌∙◌, ◌<◌, ℕ, subst, sym}
use Rattle.std.proofs.lemmas.List.{length-set}
use Rattle.gs_tallies.proofs.Outcomes.{landed_more, number_within}
use Rattle.gs_tallies.proofs.landings.LandingDraftDraftLanding.add.Goals as goal

pub returns : goal.returns
returns c xs few is =
    let counts = c.args.self.now.counts in
    let outcome = c.number-outcome.result in
    let within : outcome < 15 = subst (λ (o : ℕ). o < 15) (sym c.number-outcome.ensures) (number_within c.args.landing.now.outcome) in
    record {
      long = length-set counts outcome c.saturating_add.result ∙ is.long;
      counts = λ o lt. landed_more xs c.args.landing.now counts outcome c.saturating_add.result o few is.long is.counts c.number-outcome.ensures within c.saturating_add.ensures lt;
    }
