use Rattle.std.proofs.Common.{◌∙◌, refl, sym}
use Rattle.gs_core.specs.Machine.{planning}
use Rattle.gs_replies.specs.declared.reply.Reply.TheVariants as replies
use Rattle.gs_journal.specs.Last.{entry_lent}
use Rattle.gs_script.specs.Unread.{said_line}
use Rattle.gs_trace.specs.NotedLines.{noted_of}
use Rattle.gs_explain.specs.Moment.{moment_with}
use Rattle.gs_explain.proofs.Happened.{tells_one}
use Rattle.gs_explain.proofs.telling.explain_done.Goals as goal

pub returns : goal.returns
returns g c = λ event.
    let next = planning g.P.Policy.chosen c.args.machine.now in
    let x = moment_with (noted_of c.note_came.new.lines) event next in
    tells_one g.T.Teller.show (noted_of c.args.lines.now) c.args.first (said_line c.args.said.now) event (replies.Done (entry_lent c.args.entry)) next (noted_of c.note_came.new.lines) c.done_row.new.index c.note_came.new.last.places.items (g.T.Teller.bytes c.args.out.now) (g.T.Teller.bytes c.done_row.new.self) x c.journal.result.now.entries c.done_row.result
    refl c.in_ok-note_came.ensures.lines refl (c.journal.ensures.entries ∙ c.kernel.ensures.history) c.in_ok-note_came.ensures.marked (c.done_row.ensures.shown x (sym (c.journal.ensures.entries ∙ c.kernel.ensures.history))) c.done_row.ensures.heard
