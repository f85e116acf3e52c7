use Rattle.std.proofs.Common.{◌≡◌, ◌<◌, None, length, get_or, ap, sym, ◌∙◌}
use Rattle.std.proofs.lemmas.List.{get_or_default}
use Rattle.gs_beliefs.specs.Cpus.{raised_at, raises}
use Rattle.gs_beliefs.proofs.Found.{cpus_raised, raises_nobody, raises_one, within_beliefs}
use Rattle.gs_beliefs.proofs.beliefs.Beliefs.raise.Goals as goal

pub invariant_of-self : goal.invariant_of-self
invariant_of-self c =
    let within : c.in-Some.cpu < length c.self.inside.beliefs.items = within_beliefs c.self.inside.beliefs.items c.self.inside.running c.self.inside.stamps c.args.tid c.in-Some.cpu c.self.invariant c.in-Some.ensures.found in
    let same = get_or_default c.self.inside.beliefs.items c.in-Some.cpu c.index_mut.result.now None within in
    let before : c.index_mut.result.now ≡ get_or c.self.inside.beliefs.items c.in-Some.cpu None = cc in
    cpus_raised c.self.inside.beliefs.items c.self.inside.running c.self.inside.stamps c.in-Some.cpu c.args.tid c.args.tseq c.raise_at.new.believed (c.raise_at.ensures ∙ ap (raised_at c.args.tid c.args.tseq) before) c.self.invariant

pub returns-in-Some : goal.returns-in-Some
returns-in-Some c =
    let within : c.in-Some.cpu < length c.self.inside.beliefs.items = within_beliefs c.self.inside.beliefs.items c.self.inside.running c.self.inside.stamps c.args.tid c.in-Some.cpu c.self.invariant c.in-Some.ensures.found in
    let same = get_or_default c.self.inside.beliefs.items c.in-Some.cpu c.index_mut.result.now None within in
    let before : c.index_mut.result.now ≡ get_or c.self.inside.beliefs.items c.in-Some.cpu None = cc in
    raises_one c.self.inside.beliefs.items c.self.inside.running c.self.inside.stamps c.self.inside.agent c.args.tid c.args.tseq c.in-Some.cpu c.raise_at.new.believed c.self.invariant c.in-Some.ensures.found
    (c.raise_at.ensures ∙ ap (raised_at c.args.tid c.args.tseq) before)
    ∙ ap (raises c.args.tid c.args.tseq) c.self.view_is

pub returns-in_default : goal.returns-in_default
returns-in_default c =
    sym c.self.view_is
    ∙ (raises_nobody c.self.inside.beliefs.items c.self.inside.running c.self.inside.stamps c.self.inside.agent c.args.tid c.args.tseq c.self.invariant c.in_default.ensures.none
    ∙ ap (raises c.args.tid c.args.tseq) c.self.view_is)
