use Rattle.std.proofs.Common.{◌-◌, ℕ, length, subst}
use Rattle.std.proofs.lemmas.Result.{IfOk-weaker}
use Rattle.gs_lines.specs.Lines.{reply_lines}
use Rattle.gs_script.specs.Unread.{said_line}
use Rattle.gs_trace.specs.Came.{reply_in}
use Rattle.gs_explain.specs.Moment.{moment_of}
use Rattle.gs_explain.specs.Objects.{whys}
use Rattle.gs_explain.specs.Outlined.{Notes}
use Rattle.gs_explain.proofs.Outlining.{are_outlined, told_outline}
use Rattle.gs_explain.proofs.outline.outlined.Goals as goal

pub returns-clause-told : goal.returns-clause-told
returns-clause-told c =
    let x = moment_of c.args.scene.now in
    let r = reply_in c.args.came in
    IfOk-weaker c.new.result _ _
    (λ o is. told_outline o c.args.draft.now c.reply.new.self c.push_whys.new.out (reply_lines r) (whys x c.args.first r) (said_line c.args.said.now) c.args.first (length x.history) c.len-from.result c.len-mid.result c.len-to.result
    (subst (λ (n : ℕ). Notes (said_line c.args.said.now) c.args.first (n - c.args.first) c.len-from.result c.len-mid.result c.len-to.result o) c.len.ensures.value is) c.len-from.ensures.value c.len-mid.ensures.value c.len-to.ensures.value c.in_ok-reply.ensures c.in_ok-push_whys.ensures.shown)
    c.new.ensures

pub returns-clause-stands : goal.returns-clause-stands
returns-clause-stands c =
    let x = moment_of c.args.scene.now in
    let r = reply_in c.args.came in
    IfOk-weaker c.new.result _ _
    (λ o is. are_outlined o c.args.draft.now c.reply.new.self c.push_whys.new.out (reply_lines r) (whys x c.args.first r) (said_line c.args.said.now) c.args.first (length x.history) c.len-from.result c.len-mid.result c.len-to.result
    (subst (λ (n : ℕ). Notes (said_line c.args.said.now) c.args.first (n - c.args.first) c.len-from.result c.len-mid.result c.len-to.result o) c.len.ensures.value is) c.len-from.ensures.value c.len-mid.ensures.value c.len-to.ensures.value c.in_ok-reply.ensures c.in_ok-push_whys.ensures.shown
    c.requires.text c.len-from.ensures.utf8 c.len-mid.ensures.utf8 c.len-to.ensures.utf8)
    c.new.ensures
