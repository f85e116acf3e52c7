use Rattle.std.proofs.Common.{sym, subst}
use Rattle.gs_core.specs.declared.event.Event.{Event}
use Rattle.gs_core.specs.declared.event.Event.TheVariants as events
use Rattle.gs_replies.specs.declared.reply.Reply.{Reply}
use Rattle.gs_replies.specs.Replies.{replied}
use Rattle.gs_core.specs.Machine.{Step, planned, planning}
use Rattle.gs_core.proofs.Posting.{same_planning, step_of}
use Rattle.gs_core.proofs.machine.Machine.step_standing.Goals as goal

pub returns-in-Page-clause-step : goal.returns-in-Page-clause-step
returns-in-Page-clause-step g c =
    let chosen = g.P.Policy.chosen in
    let a = c.args.self.now in
    let b = c.page in
    let e = b.ensures in
    subst (λ (r : Reply). Step (planning chosen a) (planned chosen c.args.event.now) r (planning chosen b.new.self)) (sym c.answer-in-Page.ensures)
    (subst (λ (x : Event _). Step (planning chosen a) (planned chosen x) (replied b.result) (planning chosen b.new.self)) (sym c.in-Page.is)
    (step_of (λ r. r) (planning chosen a) (events.Page c.in-Page.max) b.result (planning chosen b.new.self) c.requires e.fits e.attaches e.refused (same_planning chosen b.result a b.new.self e.unchanged) (λ r p. p)))
