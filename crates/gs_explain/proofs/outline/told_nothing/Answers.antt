use Rattle.std.proofs.lemmas.Result.{IfOk-weaker}
use Rattle.std.proofs.Common.{subst, sym}
use Rattle.gs_explain.specs.Outlined.{TellsNothing}
use Rattle.gs_explain.proofs.Outlining.{nothing_told}
use Rattle.gs_explain.proofs.outline.told_nothing.Goals as goal

pub returns-clause-told : goal.returns-clause-told
returns-clause-told c =
    let tells = nothing_told c.args.draft.now c.nothing.new.self c.len-from.result c.len-to.result c.len-from.ensures.value c.len-to.ensures.value c.in_ok-nothing.ensures c.len-from.ensures.utf8 c.len-to.ensures.utf8 in
    IfOk-weaker c.parts.result _ _ (λ t is. subst (TellsNothing c.nothing.new.self) (sym is) tells) c.parts.ensures
