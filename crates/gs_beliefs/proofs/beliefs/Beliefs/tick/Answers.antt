use Rattle.std.proofs.Common.{◌≡◌, ◌<◌, None, length, get_or, ap, arith, ◌∙◌}
use Rattle.std.proofs.lemmas.List.{get_or_default}
use Rattle.gs_beliefs.specs.Cpus.{ticked}
use Rattle.gs_beliefs.proofs.Found.{cpus_ticked}
use Rattle.gs_beliefs.proofs.beliefs.Beliefs.tick.Goals as goal

pub invariant_of-self : goal.invariant_of-self
invariant_of-self c =
    let within : c.args.cpu < length c.self.inside.beliefs.items = omega arith in
    let same = get_or_default c.self.inside.beliefs.items c.args.cpu c.index.result.now None within in
    let before : c.index.result.now ≡ get_or c.self.inside.beliefs.items c.args.cpu None = cc in
    cpus_ticked c.self.inside.beliefs.items c.self.inside.running c.self.inside.stamps c.args.cpu c.ticked.result (c.ticked.ensures ∙ ap ticked before) c.self.invariant
