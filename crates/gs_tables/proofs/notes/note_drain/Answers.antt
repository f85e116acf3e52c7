use Rattle.std.proofs.Common.{subst}
use Rattle.gs_core.specs.declared.event.Event.TheVariants as events
use Rattle.gs_core.specs.Machine.{Step, planning}
use Rattle.gs_replies.specs.declared.reply.Reply.TheVariants as replies
use Rattle.gs_replies.specs.Replies.{replied_as}
use Rattle.gs_trace.specs.NotedLines.{noted_of}
use Rattle.gs_tables.proofs.Noting.{notes_one}
use Rattle.gs_tables.proofs.notes.note_drain.Goals as goal

pub returns-in-Ok : goal.returns-in-Ok
returns-in-Ok g c =
    let m = planning g.P.Policy.chosen c.args.machine.now in
    let next = planning g.P.Policy.chosen c.drain.new.self in
    notes_one g.P.Policy.chosen (noted_of c.args.notes.now.lines) c.args.notes.now.landings.items m c.args.line (events.Drain c.args.max) (replies.Drained c.drain.new.drained) next (noted_of c.note_came.new.notes.lines) c.note_came.new.notes.landings.items c.note_came.result
    (subst (λ (r : _). Step m (events.Drain c.args.max) (replied_as (λ _. replies.Drained c.drain.new.drained) r) next) c.in-Ok.is c.drain.ensures.step) c.drain.ensures.safe c.drain.ensures.faithful c.note_came.ensures

pub returns-in-Err : goal.returns-in-Err
returns-in-Err g c =
    let m = planning g.P.Policy.chosen c.args.machine.now in
    let next = planning g.P.Policy.chosen c.drain.new.self in
    notes_one g.P.Policy.chosen (noted_of c.args.notes.now.lines) c.args.notes.now.landings.items m c.args.line (events.Drain c.args.max) (replies.Refused c.in-Err.refusal) next (noted_of c.note_came-in-Err.new.notes.lines) c.note_came-in-Err.new.notes.landings.items c.note_came-in-Err.result
    (subst (λ (r : _). Step m (events.Drain c.args.max) (replied_as (λ _. replies.Drained c.drain.new.drained) r) next) c.in-Err.is c.drain.ensures.step) c.drain.ensures.safe c.drain.ensures.faithful c.note_came-in-Err.ensures
