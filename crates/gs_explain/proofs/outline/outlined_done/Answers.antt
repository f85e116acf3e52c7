use Rattle.std.proofs.Common.{◌-◌, [], append-nil, ℕ, length, subst, sym}
use Rattle.std.proofs.lemmas.Result.{IfOk-weaker}
use Rattle.gs_lines.specs.Lines.{reply_lines}
use Rattle.gs_replies.specs.declared.reply.Reply.TheVariants as replies
use Rattle.gs_journal.specs.Last.{entry_lent}
use Rattle.gs_script.specs.Unread.{said_line}
use Rattle.gs_explain.specs.Outlined.{Notes}
use Rattle.gs_explain.proofs.Outlining.{are_outlined, told_outline}
use Rattle.gs_explain.proofs.outline.outlined_done.Goals as goal

pub returns-clause-told : goal.returns-clause-told
returns-clause-told c =
    let new = c.done.new.self in
    let end = length c.args.journal.now.entries in
    IfOk-weaker c.new.result _ _
    (λ o is. told_outline o c.args.draft.now new new (reply_lines (replies.Done (entry_lent c.args.last))) [] (said_line c.args.said.now) c.args.first end c.len-from.result c.len-to.result c.len-to.result
    (subst (λ (n : ℕ). Notes (said_line c.args.said.now) c.args.first (n - c.args.first) c.len-from.result c.len-to.result c.len-to.result o) c.len.ensures.value is) c.len-from.ensures.value c.len-to.ensures.value c.len-to.ensures.value c.in_ok-done.ensures (sym (append-nil new)))
    c.new.ensures

pub returns-clause-stands : goal.returns-clause-stands
returns-clause-stands c =
    let new = c.done.new.self in
    let end = length c.args.journal.now.entries in
    IfOk-weaker c.new.result _ _
    (λ o is. are_outlined o c.args.draft.now new new (reply_lines (replies.Done (entry_lent c.args.last))) [] (said_line c.args.said.now) c.args.first end c.len-from.result c.len-to.result c.len-to.result
    (subst (λ (n : ℕ). Notes (said_line c.args.said.now) c.args.first (n - c.args.first) c.len-from.result c.len-to.result c.len-to.result o) c.len.ensures.value is) c.len-from.ensures.value c.len-to.ensures.value c.len-to.ensures.value c.in_ok-done.ensures (sym (append-nil new))
    c.requires.text c.len-from.ensures.utf8 c.len-to.ensures.utf8 c.len-to.ensures.utf8)
    c.new.ensures
