use Rattle.std.proofs.Common.{◌∙◌, ◌++◌, List, ℕ, ap, append_assoc, subst, sym}
use Rattle.std.proofs.lemmas.Result.{IfOk-weaker}
use Rattle.gs_lines.specs.Lines.{reply_lines}
use Rattle.gs_explain.specs.Composed.{behind_commas}
use Rattle.gs_explain.specs.Outlined.{Tells}
use Rattle.gs_explain.specs.Quiet.{quiet_object, quiet_reply, quiet_why}
use Rattle.gs_explain.proofs.Outlining.{quiet_told}
use Rattle.gs_explain.proofs.Retelling.{on_ok}
use Rattle.gs_explain.proofs.once.told_quiet.Goals as goal

pub returns-clause-grown : goal.returns-clause-grown
returns-clause-grown c =
    let old = c.args.draft.now in
    let lines = reply_lines (quiet_reply c.args.quiet.now) in
    let whys = behind_commas (quiet_why c.args.quiet.now) in
    let first = c.in_ok-reply.ensures ∙ ap (λ r. old ++ reply_lines r) c.came.ensures in
    on_ok c.parts.result (lines ++ whys, c.in_ok-push_quiet.ensures ∙ (ap (λ (t : List ℕ). t ++ whys) first ∙ append_assoc old lines whys))

pub returns-clause-told : goal.returns-clause-told
returns-clause-told c =
    let new = c.push_quiet.new.out in
    let q = c.args.quiet.now in
    let old = c.args.draft.now in
    let first = c.in_ok-reply.ensures ∙ ap (λ r. old ++ reply_lines r) c.came.ensures in
    let tells : Tells new (quiet_object q) _ = quiet_told old c.reply.new.self new (reply_lines (quiet_reply q)) (quiet_why q) c.len-from.result c.len-mid.result c.len-to.result c.len-from.ensures.value c.len-mid.ensures.value c.len-to.ensures.value first c.in_ok-push_quiet.ensures c.len-from.ensures.utf8 c.len-mid.ensures.utf8 c.len-to.ensures.utf8 in
    IfOk-weaker c.parts.result _ _ (λ t is. subst (Tells new (quiet_object q)) (sym is) tells) c.parts.ensures
