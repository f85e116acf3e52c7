use Rattle.std.proofs.Common.{List, subst, sym}
use Rattle.gs_kernel.specs.declared.landing.Landing.{Landing}
use Rattle.gs_core.specs.declared.event.Event.TheVariants as events
use Rattle.gs_replies.specs.declared.reply.Reply.TheVariants as replies
use Rattle.gs_replies.specs.Replies.{replied_as}
use Rattle.gs_core.specs.Machine.{Step, planning}
use Rattle.gs_trace.proofs.Adding.{adds_one}
use Rattle.gs_trace.proofs.running.commit_one.Goals as goal

pub returns-in-Ok : goal.returns-in-Ok
returns-in-Ok g c =
    let m = planning g.P.Policy.chosen c.args.machine.now in
    let next = planning g.P.Policy.chosen c.commit.new.self in
    let e = events.Commit c.args.mask in
    let step = subst (λ r. Step m e (replied_as (replies.Landed c.commit.new.landings.items) r) next) c.in-Ok.is c.commit.ensures.step in
    adds_one g.S.Sink.has m e (replies.Landed c.as_slice.result.now c.in-Ok.torn) next c.args.sink.now c.add_to.new.sink c.add_to.result
    (subst (λ (xs : List Landing). Step m e (replies.Landed xs c.in-Ok.torn) next) (sym c.as_slice.ensures.value) step) c.commit.ensures.safe c.commit.ensures.faithful c.add_to.ensures.sufficed c.add_to.ensures.grows

pub returns-in-Err : goal.returns-in-Err
returns-in-Err g c =
    let m = planning g.P.Policy.chosen c.args.machine.now in
    let next = planning g.P.Policy.chosen c.commit.new.self in
    adds_one g.S.Sink.has m (events.Commit c.args.mask) (replies.Refused c.in-Err.refusal) next c.args.sink.now c.add_refusal.new.sink c.add_refusal.result
    (subst (λ r. Step m (events.Commit c.args.mask) (replied_as (replies.Landed c.commit.new.landings.items) r) next) c.in-Err.is c.commit.ensures.step) c.commit.ensures.safe c.commit.ensures.faithful c.add_refusal.ensures.sufficed c.add_refusal.ensures.grows
