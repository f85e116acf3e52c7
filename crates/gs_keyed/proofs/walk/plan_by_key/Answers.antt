use Rattle.std.proofs.Common.{ap, arith, refl, sym, ◌∙◌}
use Rattle.gs_layout.specs.View.{look_up}
use Rattle.gs_policy.specs.Candidates.{choices_of}
use Rattle.gs_keyed.specs.declared.order.Rank.{Rank}
use Rattle.gs_keyed.specs.Ordered.{threads}
use Rattle.gs_keyed.proofs.Walks.{planning_more, planning_none, planning_spent}
use Rattle.gs_keyed.proofs.walk.plan_by_key.Goals as goal

pub returns-then-are_spent : goal.returns-then-are_spent
returns-then-are_spent g c =
    planning_spent _ _ _ _ _ _ c.loop-rank.invariant (sym c.are_spent.ensures ∙ c.if-are_spent.true)
    ∙ ap (λ xs. choices_of c.args.all (look_up c.args.view.now.entries) (threads xs)) (c.deref-rank-items.ensures.value ∙ c.in_ok-order.ensures)

none : Rank
none = record { key = 0; place = 0; tid = 0 }

pub loop-rank-preserved-in_default : goal.loop-rank-preserved-in_default
unfolding none
loop-rank-preserved-in_default g c =
    planning_none _ _ _ _ _ _ _ none _ c.loop-rank.invariant (omega arith) refl c.in_default.ensures.choice c.choose.ensures.left

pub loop-rank-preserved : goal.loop-rank-preserved
unfolding none
loop-rank-preserved g c =
    planning_more _ _ _ _ _ _ _ _ none _ _ c.loop-rank.invariant (omega arith) refl c.in-Some.ensures.choice c.choose.ensures.left c.in_ok-push.ensures.items
