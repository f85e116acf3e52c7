use Rattle.gs_explain.proofs.Outlining.{events_grown, lates_grown, nothing_grown, outlines_grown}
use Rattle.gs_explain.proofs.once.tell_quiet.Goals as goal

pub returns-in-Ok-clause-same : goal.returns-in-Ok-clause-same
returns-in-Ok-clause-same c = outlines_grown c.args.outlines.now c.args.draft.now c.told_quiet.new.draft c.in-Ok.ensures.grown c.requires.outlined.events

pub returns-in-Ok-clause-outlined : goal.returns-in-Ok-clause-outlined
returns-in-Ok-clause-outlined c =
    let old = c.args.draft.now in
    let new = c.told_quiet.new.draft in
    record {
      events = events_grown c.args.outlines.now old new c.in-Ok.ensures.grown c.requires.outlined.events;
      nothing = nothing_grown c.args.nothing.now old new c.in-Ok.ensures.grown c.requires.outlined.nothing;
      lates = lates_grown c.args.kepts.now.items old new c.in-Ok.ensures.grown c.requires.outlined.lates;
    }
