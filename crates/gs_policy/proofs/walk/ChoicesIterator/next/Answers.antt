use Rattle.std.proofs.Common.{rules, sym, ◌∙◌}
use Rattle.gs_policy.proofs.Left.{planned_none, planned_some}
use Rattle.gs_policy.proofs.walk.ChoicesIterator.next.Goals as goal

pub returns-in-Some-clause-steps : goal.returns-in-Some-clause-steps
returns-in-Some-clause-steps c = sym c.loop-self.invariant ∙ planned_some _ _ _ _ _ _ _ c.in_ok-tid.ensures.steps c.in-Some.ensures.choice c.in-Some.ensures.left

pub returns-in-Some-clause-goes : goal.returns-in-Some-clause-goes
returns-in-Some-clause-goes c = let steps = returns-in-Some-clause-steps c in search rules

pub loop-self-preserved : goal.loop-self-preserved
loop-self-preserved c = planned_none _ _ _ _ _ _ c.in_ok-tid.ensures.steps c.in_default.ensures.choice c.in_default.ensures.left ∙ c.loop-self.invariant
