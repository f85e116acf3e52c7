use Rattle.gs_core.specs.Machine.{planning}
use Rattle.gs_trace.specs.NotedLines.{noted_of}
use Rattle.gs_tables.proofs.Noting.{notes_one}
use Rattle.gs_tables.proofs.notes.note_step.Goals as goal

pub returns : goal.returns
returns g c =
    let m = planning g.P.Policy.chosen c.args.machine.now in
    let next = planning g.P.Policy.chosen c.step-reply.new.self in
    notes_one g.P.Policy.chosen (noted_of c.args.notes.now.lines) c.args.notes.now.landings.items m c.args.line c.args.event.now c.step-reply.result next (noted_of c.note_came.new.notes.lines) c.note_came.new.notes.landings.items c.note_came.result c.step-reply.ensures.step c.step-reply.ensures.safe c.step-reply.ensures.faithful
    c.note_came.ensures
