use Rattle.std.proofs.Common.{List, subst, sym}
use Rattle.gs_policy.specs.declared.choice.Choice.{Choice}
use Rattle.gs_core.specs.declared.event.Event.TheVariants as events
use Rattle.gs_replies.specs.declared.reply.Reply.TheVariants as replies
use Rattle.gs_replies.specs.Replies.{replied_as}
use Rattle.gs_core.specs.Machine.{Step, planning}
use Rattle.gs_trace.proofs.Adding.{adds_one}
use Rattle.gs_trace.proofs.running.decide_one.Goals as goal

pub returns-in-Ok : goal.returns-in-Ok
returns-in-Ok g c =
    let m = planning g.P.Policy.chosen c.args.machine.now in
    let next = planning g.P.Policy.chosen c.decide.new.self in
    let step = subst (λ r. Step m events.Decide (replied_as (λ n. replies.Decided n c.decide.new.choices.items) r) next) c.in-Ok.is c.decide.ensures.step in
    adds_one g.S.Sink.has m events.Decide (replies.Decided c.in-Ok.first c.as_slice.result.now) next c.args.sink.now c.add_to.new.sink c.add_to.result
    (subst (λ (xs : List Choice). Step m events.Decide (replies.Decided c.in-Ok.first xs) next) (sym c.as_slice.ensures.value) step) c.decide.ensures.safe c.decide.ensures.faithful c.add_to.ensures.sufficed c.add_to.ensures.grows

pub returns-in-Err : goal.returns-in-Err
returns-in-Err g c =
    let m = planning g.P.Policy.chosen c.args.machine.now in
    let next = planning g.P.Policy.chosen c.decide.new.self in
    adds_one g.S.Sink.has m events.Decide (replies.Refused c.in-Err.refusal) next c.args.sink.now c.add_refusal.new.sink c.add_refusal.result
    (subst (λ r. Step m events.Decide (replied_as (λ n. replies.Decided n c.decide.new.choices.items) r) next) c.in-Err.is c.decide.ensures.step) c.decide.ensures.safe c.decide.ensures.faithful c.add_refusal.ensures.sufficed c.add_refusal.ensures.grows
