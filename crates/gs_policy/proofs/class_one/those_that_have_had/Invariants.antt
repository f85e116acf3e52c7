use Rattle.gs_layout.specs.View.{look_up}
use Rattle.gs_status.specs.Masks.{has}
use Rattle.gs_beliefs.specs.Cpus.{believed_on}
use Rattle.gs_beliefs.proofs.Laws.{remaining}
use Rattle.gs_policy.specs.Plan.{has_had}
use Rattle.gs_policy.proofs.Gathered.{IsGathered}
use Rattle.gs_policy.proofs.class_one.those_that_have_had.Given as goal

abbrev pub invariant-loop-cpu : goal.invariant-loop-cpu
invariant-loop-cpu l = IsGathered (λ c. has_had l.ticks (look_up l.view.entries) (believed_on l.cpus.beliefs.now c)) (has l.fn.among) l.left l.found

abbrev pub decreases-loop-cpu : goal.decreases-loop-cpu
decreases-loop-cpu l = remaining l.left
