use Rattle.gs_core.specs.declared.event.Event.TheVariants as events
use Rattle.gs_replies.specs.declared.reply.Reply.TheVariants as replies
use Rattle.gs_core.specs.Machine.{planning}
use Rattle.gs_core.proofs.Posting.{both_of, same_planning, step_of}
use Rattle.gs_core.proofs.machine.Machine.decide_standing.Goals as goal

pub returns-clause-step : goal.returns-clause-step
returns-clause-step g c =
    let chosen = g.P.Policy.chosen in
    let a = c.args.self.now in
    let b = c.stamp_plan in
    let e = b.ensures in
    step_of (λ n. replies.Decided n b.new.choices.items) (planning chosen a) events.Decide b.result (planning chosen b.new.self) c.requires e.fits (both_of b.result _ _ e.reply e.ok) e.refused (same_planning chosen b.result a b.new.self e.unchanged) (λ r p. p)
