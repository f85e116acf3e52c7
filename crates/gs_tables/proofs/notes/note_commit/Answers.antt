use Rattle.std.proofs.Common.{sym, subst, List}
use Rattle.gs_kernel.specs.declared.landing.Landing.{Landing}
use Rattle.gs_core.specs.declared.event.Event.TheVariants as events
use Rattle.gs_core.specs.Machine.{Step, planning}
use Rattle.gs_replies.specs.declared.reply.Reply.TheVariants as replies
use Rattle.gs_replies.specs.Replies.{replied_as}
use Rattle.gs_trace.specs.NotedLines.{noted_of}
use Rattle.gs_tables.proofs.Noting.{notes_one}
use Rattle.gs_tables.proofs.notes.note_commit.Goals as goal

pub returns-in-Ok : goal.returns-in-Ok
returns-in-Ok g c =
    let m = planning g.P.Policy.chosen c.args.machine.now in
    let next = planning g.P.Policy.chosen c.commit.new.self in
    let step = subst (λ (r : _). Step m (events.Commit c.args.mask) (replied_as (replies.Landed c.commit.new.landings.items) r) next) c.in-Ok.is c.commit.ensures.step in
    notes_one g.P.Policy.chosen (noted_of c.args.notes.now.lines) c.args.notes.now.landings.items m c.args.line (events.Commit c.args.mask) (replies.Landed c.as_slice.result.now c.in-Ok.torn) next (noted_of c.note_came.new.notes.lines) c.note_came.new.notes.landings.items c.note_came.result
    (subst (λ (xs : List Landing). Step m (events.Commit c.args.mask) (replies.Landed xs c.in-Ok.torn) next) (sym c.as_slice.ensures.value) step) c.commit.ensures.safe c.commit.ensures.faithful c.note_came.ensures

pub returns-in-Err : goal.returns-in-Err
returns-in-Err g c =
    let m = planning g.P.Policy.chosen c.args.machine.now in
    let next = planning g.P.Policy.chosen c.commit.new.self in
    notes_one g.P.Policy.chosen (noted_of c.args.notes.now.lines) c.args.notes.now.landings.items m c.args.line (events.Commit c.args.mask) (replies.Refused c.in-Err.refusal) next (noted_of c.note_came-in-Err.new.notes.lines) c.note_came-in-Err.new.notes.landings.items c.note_came-in-Err.result
    (subst (λ (r : _). Step m (events.Commit c.args.mask) (replied_as (replies.Landed c.commit.new.landings.items) r) next) c.in-Err.is c.commit.ensures.step) c.commit.ensures.safe c.commit.ensures.faithful c.note_came-in-Err.ensures
