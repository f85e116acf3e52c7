use Rattle.gs_explain.proofs.Outlining.{kept_ok, kept_outlined, kept_told}
use Rattle.gs_explain.proofs.objects.Objects.add_done.Goals as goal

pub invariant_of-self : goal.invariant_of-self
invariant_of-self c =
    kept_outlined c.keep.result c.outlined_done-outlined.result c.self.inside.outlines c.keep.new.outlines c.self.inside.nothing c.keep.new.nothing c.self.inside.kepts.items c.keep.new.kepts.items c.self.inside.draft c.outlined_done-outlined.new.draft c.keep.ensures.told c.keep.ensures.added c.keep.ensures.same c.keep.ensures.none
    c.outlined_done-outlined.ensures.grown c.outlined_done-outlined.ensures.stands c.self.invariant

pub returns-clause-shown : goal.returns-clause-shown
returns-clause-shown c = kept_told c.keep.result c.outlined_done-outlined.result c.self.inside.outlines c.keep.new.outlines c.self.inside.draft c.outlined_done-outlined.new.draft _ _ c.keep.ensures.told c.keep.ensures.added c.outlined_done-outlined.ensures.grown c.outlined_done-outlined.ensures.told c.self.invariant.events c.self.view_is

pub returns-clause-heard : goal.returns-clause-heard
returns-clause-heard c = kept_ok _ c.keep.result c.outlined_done-outlined.result c.keep.ensures.told c.outlined_done-outlined.ensures.heard
