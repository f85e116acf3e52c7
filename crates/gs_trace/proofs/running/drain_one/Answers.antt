use Rattle.std.proofs.Common.{subst}
use Rattle.gs_core.specs.declared.event.Event.TheVariants as events
use Rattle.gs_replies.specs.declared.reply.Reply.TheVariants as replies
use Rattle.gs_replies.specs.Replies.{replied_as}
use Rattle.gs_core.specs.Machine.{Step, planning}
use Rattle.gs_trace.proofs.Adding.{adds_one}
use Rattle.gs_trace.proofs.running.drain_one.Goals as goal

pub returns-in-Ok : goal.returns-in-Ok
returns-in-Ok g c =
    let m = planning g.P.Policy.chosen c.args.machine.now in
    let next = planning g.P.Policy.chosen c.drain.new.self in
    adds_one g.S.Sink.has m (events.Drain c.args.max) (replies.Drained c.drain.new.drained) next c.args.sink.now c.add_to.new.sink c.add_to.result
    (subst (λ r. Step m (events.Drain c.args.max) (replied_as (λ _. replies.Drained c.drain.new.drained) r) next) c.in-Ok.is c.drain.ensures.step) c.drain.ensures.safe c.drain.ensures.faithful c.add_to.ensures.sufficed c.add_to.ensures.grows

pub returns-in-Err : goal.returns-in-Err
returns-in-Err g c =
    let m = planning g.P.Policy.chosen c.args.machine.now in
    let next = planning g.P.Policy.chosen c.drain.new.self in
    adds_one g.S.Sink.has m (events.Drain c.args.max) (replies.Refused c.in-Err.refusal) next c.args.sink.now c.add_refusal.new.sink c.add_refusal.result
    (subst (λ r. Step m (events.Drain c.args.max) (replied_as (λ _. replies.Drained c.drain.new.drained) r) next) c.in-Err.is c.drain.ensures.step) c.drain.ensures.safe c.drain.ensures.faithful c.add_refusal.ensures.sufficed c.add_refusal.ensures.grows
