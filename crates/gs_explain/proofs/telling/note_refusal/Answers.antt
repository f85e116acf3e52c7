use Rattle.std.proofs.Common.{◌∙◌, ap, sym, subst, ℕ, List, arith, length, take}
use Rattle.std.proofs.lemmas.Result.{on_ok_weaker}
use Rattle.gs_core.specs.declared.transaction.Transaction.{Transaction}
use Rattle.gs_core.specs.Machine.{planning}
use Rattle.gs_replies.specs.declared.reply.Reply.TheVariants as replies
use Rattle.gs_trace.specs.Noted.{Noted, filled}
use Rattle.gs_trace.specs.NotedLines.{noted_of}
use Rattle.gs_trace.proofs.NotedParts.{noted_is}
use Rattle.gs_explain.specs.Marked.{IsMarked}
use Rattle.gs_explain.proofs.Happened.{three_ok}
use Rattle.gs_explain.proofs.telling.note_refusal.Goals as goal

pub mark_last-requires-clause-within : goal.mark_last-requires-clause-within
mark_last-requires-clause-within g c = omega (arith, ap length c.transactions-transactions.ensures, c.requires.within)

pub mark_last-requires-clause-marked : goal.mark_last-requires-clause-marked
mark_last-requires-clause-marked g c = subst (λ (xs : List Transaction). IsMarked c.args.last.now.places.items (take c.args.stamped xs)) (sym c.transactions-transactions.ensures) c.requires.marked

pub returns-clause-lines : goal.returns-clause-lines
returns-clause-lines g c =
    let next = planning g.P.Policy.chosen c.args.machine.now in
    let n : Noted = noted_of c.args.lines.now in
    let l = c.note.new.self in
    let history = c.journal.result.now.entries in
    three_ok c.note.result _ _ _ _
    (λ entries stamped page.
    noted_is c.args.line (replies.Refused c.args.refusal) next n history c.transactions-transactions.result.now l.entries.items l.stamped.items l.page (c.journal.ensures.entries ∙ c.kernel.ensures.history) c.transactions-transactions.ensures
    (entries ∙ ap (λ (k : ℕ). filled k c.args.line n.lines) c.len-entries.ensures.value) stamped page) c.note.ensures.entries c.note.ensures.stamped c.note.ensures.page

pub returns-clause-marked : goal.returns-clause-marked
returns-clause-marked g c = on_ok_weaker c.note.result (λ noted. subst (IsMarked c.mark_last.new.last.places.items) c.transactions-transactions.ensures c.in_ok-mark_last.ensures) c.note.ensures.page
