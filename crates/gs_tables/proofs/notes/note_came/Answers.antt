use Rattle.std.proofs.Common.{◌≡◌, ◌∙◌, ap, sym, false, ℕ, ◌||◌, Bool}
use Rattle.std.proofs.lemmas.Result.{on_ok_weaker}
use Rattle.gs_core.specs.Machine.{planning}
use Rattle.gs_replies.specs.declared.reply.Reply.{Reply}
use Rattle.gs_trace.specs.Came.{reply_in}
use Rattle.gs_trace.specs.Noted.{Noted, filled}
use Rattle.gs_trace.specs.NotedLines.{noted_of}
use Rattle.gs_trace.proofs.NotedParts.{noted_is}
use Rattle.gs_tables.proofs.notes.note_came.Goals as goal

pub returns : goal.returns
returns g c =
    let next = planning g.P.Policy.chosen c.args.machine.now in
    let r : Reply = reply_in c.args.came in
    let n : Noted = noted_of c.args.notes.now.lines in
    let entries : c.journal-journal.result.now.entries ≡ next.history = c.journal-journal.ensures.entries ∙ c.kernel.ensures.history in
    let transactions : c.transactions-transactions.result.now ≡ next.transactions = c.transactions-transactions.ensures in
    on_ok_weaker c.add_landed.result
    (λ landed. record {
      sufficed = ap (λ (b : Bool). b || false) (sym c.is_short.ensures ∙ c.if-is_short.false);
      lines =
          noted_is c.args.line r next n c.journal-journal.result.now.entries c.transactions-transactions.result.now c.note_came.new.self.entries.items c.note_came.new.self.stamped.items c.note_came.new.self.page entries transactions
          (c.in_ok-note_came.ensures.entries ∙ ap (λ (k : ℕ). filled k c.args.line n.lines) c.len.ensures.value) c.in_ok-note_came.ensures.stamped c.in_ok-note_came.ensures.page;
      landed = landed;
    }) c.add_landed.ensures
