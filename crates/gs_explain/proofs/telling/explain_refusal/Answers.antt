use Rattle.std.proofs.Common.{◌∙◌, ap, refl, sym, subst, false, ◌||◌, Bool, List, arith, length, take}
use Rattle.gs_core.specs.declared.transaction.Transaction.{Transaction}
use Rattle.gs_core.specs.Machine.{planning}
use Rattle.gs_journal.specs.History.{History}
use Rattle.gs_replies.specs.declared.reply.Reply.TheVariants as replies
use Rattle.gs_reasons.specs.Kept.{HasHeard}
use Rattle.gs_script.specs.Unread.{said_line}
use Rattle.gs_trace.specs.NotedLines.{noted_of}
use Rattle.gs_explain.specs.Marked.{IsMarked}
use Rattle.gs_explain.specs.Moment.{moment_of}
use Rattle.gs_explain.proofs.Happened.{tells_one}
use Rattle.gs_explain.proofs.telling.explain_refusal.Goals as goal

pub refused_row-requires : goal.refused_row-requires
refused_row-requires g c =
    let entries = c.new-scene.ensures.journal in
    λ k. (
      (refl, tt),
      (
        c.requires.text,
        (
          omega (arith, ap length entries, c.requires.before.entries),
          (
            subst (λ (h : History). HasHeard c.args.index.now (take c.args.first h)) (sym entries) c.requires.before.heard,
            subst (λ (xs : List Transaction). IsMarked c.new-scene.result.last.now.places.items xs) (sym c.new-scene.ensures.transactions) (subst (λ (l : _). IsMarked l.places.items c.args.machine.now.transactions) (sym c.new-scene.ensures.last) c.in_ok-note_refusal.ensures.marked),
          ),
        ),
      ),
    )

pub returns : goal.returns
returns g c =
    let next = planning g.P.Policy.chosen c.args.machine.now in
    tells_one g.T.Teller.show (noted_of c.args.lines.now) c.args.first (said_line c.args.said.now) c.args.event.now (replies.Refused c.args.refusal) next (noted_of c.note_refusal.new.lines) c.refused_row.new.index c.note_refusal.new.last.places.items (g.T.Teller.bytes c.args.out.now) (g.T.Teller.bytes c.refused_row.new.self) (moment_of c.new-scene.result) c.new-scene.result.journal.now.entries c.refused_row.result
    (ap (λ (b : Bool). b || false) (sym c.is_short.ensures ∙ c.if-is_short.false)) c.in_ok-note_refusal.ensures.lines c.new-scene.ensures.moment c.new-scene.ensures.journal c.in_ok-note_refusal.ensures.marked c.refused_row.ensures.shown c.refused_row.ensures.heard
