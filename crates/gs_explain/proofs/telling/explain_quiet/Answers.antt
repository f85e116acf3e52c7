use Rattle.std.proofs.Common.{◌≤◌, ◌||◌, ◌∙◌, ap, arith, false, refl, length, subst, Bool}
use Rattle.std.proofs.lemmas.List.{take_all}
use Rattle.gs_core.specs.Machine.{planning}
use Rattle.gs_reasons.specs.Kept.{HasHeard}
use Rattle.gs_replies.specs.declared.reply.Reply.{Reply}
use Rattle.gs_script.specs.Unread.{said_line}
use Rattle.gs_trace.specs.Noted.{noted_after}
use Rattle.gs_trace.specs.NotedLines.{noted_of}
use Rattle.gs_explain.specs.Moment.{moment_with}
use Rattle.gs_explain.specs.Quiet.{quiet_reply}
use Rattle.gs_explain.proofs.Happened.{tells_one}
use Rattle.gs_explain.proofs.Retelling.{on_ok}
use Rattle.gs_explain.proofs.telling.explain_quiet.Goals as goal

pub returns : goal.returns
returns g c = λ event.
    let next = planning g.P.Policy.chosen c.args.machine.now in
    let n = noted_of c.args.lines.now in
    let noted = noted_of c.note_came.new.lines in
    let lines = c.in_ok-note_came.ensures.lines ∙ ap (λ (r : Reply). noted_after c.args.said.now.number r next n) c.came.ensures in
    let x = moment_with noted event next in
    let all : length next.history ≤ c.args.first = omega (arith, c.requires.all) in
    let heard = subst (HasHeard c.args.index.now) (take_all c.args.first next.history all) c.requires.before.heard in
    tells_one g.T.Teller.show n c.args.first (said_line c.args.said.now) event (quiet_reply c.args.quiet) next noted c.args.index.now c.note_came.new.last.places.items (g.T.Teller.bytes c.args.out.now) (g.T.Teller.bytes c.quiet_row.new.self) x next.history c.quiet_row.result
    (ap (λ (b : Bool). b || false) c.requires.enough) lines refl refl c.in_ok-note_came.ensures.marked (c.quiet_row.ensures.shown x c.requires.all) (on_ok c.quiet_row.result heard)
