use Rattle.gs_explain.proofs.Outlining.{events_grown, nothing_grown, outlines_grown}
use Rattle.gs_explain.proofs.once.tell_again.Goals as goal

pub returns-in-Ok-clause-same : goal.returns-in-Ok-clause-same
returns-in-Ok-clause-same c = outlines_grown c.args.outlines.now c.args.draft.now c.tell_anew.new.draft c.in-Ok.ensures.grown c.requires.outlined.events

pub returns-in-Ok-clause-outlined : goal.returns-in-Ok-clause-outlined
returns-in-Ok-clause-outlined c =
    let old = c.args.draft.now in
    let new = c.tell_anew.new.draft in
    record {
      events = events_grown c.args.outlines.now old new c.in-Ok.ensures.grown c.requires.outlined.events;
      nothing = nothing_grown c.args.nothing.now old new c.in-Ok.ensures.grown c.requires.outlined.nothing;
      lates = c.in-Ok.ensures.kept;
    }
