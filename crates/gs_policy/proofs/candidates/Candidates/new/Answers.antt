use Rattle.std.proofs.Common.{◌≤◌, length, subst, ℕ}
use Rattle.gs_policy.specs.Shown.{shows}
use Rattle.gs_policy.proofs.Left.{plan_all}
use Rattle.gs_policy.proofs.candidates.Candidates.new.Goals as goal

pub returns : goal.returns
returns c = λ may_take records queue taking taken.
    let most : length c.args.cpus.now.beliefs.now.believed ≤ 128 = subst (λ (n : ℕ). n ≤ 128) c.cpus-most.ensures.count c.cpus-most.ensures.most in
    plan_all may_take (shows records c.args.cpus.now queue) _ most c.free.ensures taking taken
