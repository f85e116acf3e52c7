use Rattle.std.proofs.Common.{ap, ◌∙◌}
use Rattle.gs_beliefs.specs.Cpus.{Cpus, is_believed}
use Rattle.gs_beliefs.proofs.Found.{runs_found}
use Rattle.gs_beliefs.proofs.beliefs.Beliefs.runs.Goals as goal

pub returns : goal.returns
returns c =
    c.has.ensures
    ∙ (runs_found c.self.inside.beliefs.items c.self.inside.running c.self.inside.stamps c.args.tid c.self.invariant
    ∙ ap (λ (s : Cpus). is_believed s c.args.tid) c.self.view_is)
