use Rattle.std.proofs.Common.{◌≡◌, ◌∙◌, ap, sym, subst}
use Rattle.gs_journal.specs.Last.{entry_lent}
use Rattle.gs_kernel.specs.Kernel.{last_entry}
use Rattle.gs_core.specs.declared.event.Event.TheVariants as events
use Rattle.gs_core.specs.Machine.{Step, planning}
use Rattle.gs_replies.specs.declared.reply.Reply.{Reply}
use Rattle.gs_replies.specs.Replies.{reply_of}
use Rattle.gs_trace.specs.NotedLines.{noted_of}
use Rattle.gs_tables.proofs.Noting.{notes_one}
use Rattle.gs_tables.proofs.notes.note_command.Goals as goal

pub returns : goal.returns
returns g c =
    let m = planning g.P.Policy.chosen c.args.machine.now in
    let next = planning g.P.Policy.chosen c.command-came.new.self in
    let came = c.command-came.result in
    let last : reply_of came (last_entry next.history) ≡ reply_of came (entry_lent c.last.result) = sym (ap (reply_of came) (c.last.ensures ∙ ap last_entry c.kernel.ensures.history)) in
    notes_one g.P.Policy.chosen (noted_of c.args.notes.now.lines) c.args.notes.now.landings.items m c.args.line (events.Kernel c.args.command.now) (reply_of came (entry_lent c.last.result)) next (noted_of c.note_came.new.notes.lines) c.note_came.new.notes.landings.items c.note_came.result
    (subst (λ (r : Reply). Step m (events.Kernel c.args.command.now) r next) last c.command-came.ensures.step) c.command-came.ensures.safe c.command-came.ensures.faithful c.note_came.ensures
