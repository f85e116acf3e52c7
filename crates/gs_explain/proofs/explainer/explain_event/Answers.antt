use Rattle.std.proofs.Common.{rules, ◌≡◌, ◌∙◌, ap, subst, arith, ℕ, List, ◌++◌, length}
use Rattle.gs_core.specs.Machine.{planning}
use Rattle.gs_replies.specs.declared.reply.Reply.{Reply}
use Rattle.gs_trace.specs.Noted.{Noted, filled, noted_after}
use Rattle.gs_trace.specs.NotedLines.{noted_of}
use Rattle.gs_trace.proofs.NotedParts.{noted_is}
use Rattle.gs_reasons.specs.Kept.{HasHeard}
use Rattle.gs_explain.specs.Marked.{IsMarked}
use Rattle.gs_explain.specs.Moment.{Moment, moment, moment_of, moment_with}
use Rattle.gs_explain.specs.Rows.{reply_shown}
use Rattle.gs_explain.proofs.Knowing.{filled_len}
use Rattle.gs_explain.proofs.explainer.explain_event.Goals as goal

pub returns-clause-shown : goal.returns-clause-shown
returns-clause-shown g c =
    let m = planning g.P.Policy.chosen c.args.machine.now in
    let e = c.args.event.now in
    let r : Reply = c.args.reply.now in
    let n : Noted = noted_of c.args.lines.now in
    let after : Noted = noted_after c.args.line r m n in
    let l = c.note.new.self in
    let first : c.len-first.result ≡ length n.lines = search rules in
    let lines : noted_of l ≡ after =
    noted_is c.args.line r m n c.journal.result.now.entries c.transactions-transactions.result.now l.entries.items l.stamped.items l.page (c.journal.ensures.entries ∙ c.kernel.ensures.history) c.transactions-transactions.ensures (c.in_ok-note.ensures.entries ∙ ap (λ (j : ℕ). filled j c.args.line n.lines) c.len-entries.ensures.value)
    c.in_ok-note.ensures.stamped c.in_ok-note.ensures.page in
    let x : Moment = moment_of c.new-scene.result in
    let at_hand : x ≡ moment after e m = c.new-scene.ensures.moment ∙ (λ i. moment_with (lines i) (c.with_policy-bare.ensures i) m) in
    c.into_text.ensures ∙ c.in_ok-write_shown.ensures.shown ∙ ap (λ (text : List ℕ). text ++ reply_shown x c.len-first.result r) c.new-page.ensures
    ∙ ap (λ (y : Moment). reply_shown y c.len-first.result r) at_hand ∙ ap (λ (j : ℕ). reply_shown (moment after e m) j r) first

pub returns-clause-knows : goal.returns-clause-knows
returns-clause-knows g c =
    let m = planning g.P.Policy.chosen c.args.machine.now in
    let n : Noted = noted_of c.args.lines.now in
    let history : c.journal.result.now.entries ≡ m.history = c.journal.ensures.entries ∙ c.kernel.ensures.history in
    let count : c.len-entries.result ≡ length m.history = c.len-entries.ensures.value ∙ ap length history in
    let transactions : c.transactions-transactions.result.now ≡ m.transactions = c.transactions-transactions.ensures in
    record {
      entries = ap length c.in_ok-note.ensures.entries ∙ (filled_len c.len-entries.result c.args.line n.lines (omega (arith, count, c.requires.entries)) ∙ count);
      stamped = ap length c.in_ok-note.ensures.stamped ∙ (filled_len (length c.transactions-transactions.result.now) c.args.line n.stamped (omega (arith, ap length transactions, c.requires.stamped)) ∙ ap length transactions);
      heard = subst (HasHeard c.write_shown.new.index) c.new-scene.ensures.journal c.in_ok-write_shown.ensures.heard;
      marked = subst (IsMarked c.mark_last.new.last.places.items) transactions c.in_ok-mark_last.ensures;
    }
