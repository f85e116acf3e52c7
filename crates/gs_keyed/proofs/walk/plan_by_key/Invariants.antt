use Rattle.gs_layout.specs.View.{look_up}
use Rattle.gs_keyed.proofs.Walks.{IsPlanning}
use Rattle.gs_keyed.proofs.walk.plan_by_key.Given as goal

abbrev pub invariant-loop-rank : goal.invariant-loop-rank
invariant-loop-rank g l = IsPlanning (look_up l.view.entries) l.fn.all l.left l.plan.items l.rank-index l.rank-items
