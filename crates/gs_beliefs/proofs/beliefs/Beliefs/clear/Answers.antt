use Rattle.std.proofs.Common.{ap, sym, ◌∙◌}
use Rattle.gs_beliefs.specs.Cpus.{clears}
use Rattle.gs_beliefs.proofs.Found.{clears_nobody, clears_one, cpus_cleared}
use Rattle.gs_beliefs.proofs.beliefs.Beliefs.clear.Goals as goal

pub invariant_of-self : goal.invariant_of-self
invariant_of-self c = cpus_cleared c.self.inside.beliefs.items c.self.inside.running c.self.inside.stamps c.vacate.new.self c.in-Some.cpu c.self.invariant c.vacate.ensures

pub returns-in-Some : goal.returns-in-Some
returns-in-Some c =
    clears_one c.self.inside.beliefs.items c.self.inside.running c.self.inside.stamps c.self.inside.agent c.args.tid c.in-Some.cpu c.self.invariant c.in-Some.ensures.found
    ∙ ap (clears c.args.tid) c.self.view_is

pub returns-in_default : goal.returns-in_default
returns-in_default c =
    sym c.self.view_is
    ∙ (clears_nobody c.self.inside.beliefs.items c.self.inside.running c.self.inside.stamps c.self.inside.agent c.args.tid c.self.invariant c.in_default.ensures.none
    ∙ ap (clears c.args.tid) c.self.view_is)
