use Rattle.std.proofs.Common.{ap, ◌∙◌}
use Rattle.gs_beliefs.specs.Cpus.{Cpus}
use Rattle.gs_beliefs.proofs.Found.{cpus_placed}
use Rattle.gs_beliefs.proofs.beliefs.Beliefs.place.Goals as goal

pub invariant_of-self : goal.invariant_of-self
invariant_of-self c =
    cpus_placed c.self.inside.beliefs.items c.args.self.now.believed c.self.inside.running c.self.inside.stamps c.seat.new.self c.args.cpu c.args.tid c.args.tseq c.self.invariant
    (ap (λ (s : Cpus). s.believed) (c.self.view_is ∙ c.clear.ensures)) c.seat.ensures
