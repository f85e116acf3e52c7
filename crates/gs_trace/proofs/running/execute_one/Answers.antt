use Rattle.std.proofs.Common.{◌≡◌, ◌∙◌, Ok, ap, subst, sym}
use Rattle.gs_journal.specs.Last.{entry_lent}
use Rattle.gs_kernel.specs.Kernel.{last_entry}
use Rattle.gs_core.specs.declared.event.Event.TheVariants as events
use Rattle.gs_replies.specs.declared.reply.Reply.{Reply}
use Rattle.gs_replies.specs.declared.reply.Reply.TheVariants as replies
use Rattle.gs_replies.specs.Replies.{reply_of}
use Rattle.gs_core.specs.Machine.{Step, planning}
use Rattle.gs_trace.proofs.Adding.{adds_one}
use Rattle.gs_trace.proofs.running.execute_one.Goals as goal

pub returns-in-Ok : goal.returns-in-Ok
returns-in-Ok g c =
    let m = planning g.P.Policy.chosen c.args.machine.now in
    let next = planning g.P.Policy.chosen c.command.new.self in
    let came = c.command.result in
    let e = c.command.ensures in
    let event = events.Kernel c.args.command.now in
    let entry = entry_lent c.last.result in
    let last : reply_of came (last_entry next.history) ≡ reply_of came entry = sym (ap (reply_of came) (c.last.ensures ∙ ap last_entry c.kernel-kernel.ensures.history)) in
    adds_one g.S.Sink.has m event (reply_of (Ok c.in-Ok.executed) entry) next c.args.sink.now c.add_to.new.sink c.add_to.result
    (subst (λ r. Step m event (reply_of r entry) next) c.in-Ok.is (subst (λ (r : Reply). Step m event r next) last e.step)) e.safe e.faithful c.add_to.ensures.sufficed c.add_to.ensures.grows

pub returns-in-Err : goal.returns-in-Err
returns-in-Err g c =
    let m = planning g.P.Policy.chosen c.args.machine.now in
    let next = planning g.P.Policy.chosen c.command.new.self in
    let e = c.command.ensures in
    let event = events.Kernel c.args.command.now in
    adds_one g.S.Sink.has m event (replies.Refused c.in-Err.refusal) next c.args.sink.now c.add_refusal.new.sink c.add_refusal.result
    (subst (λ r. Step m event (reply_of r (last_entry next.history)) next) c.in-Err.is e.step) e.safe e.faithful c.add_refusal.ensures.sufficed c.add_refusal.ensures.grows
