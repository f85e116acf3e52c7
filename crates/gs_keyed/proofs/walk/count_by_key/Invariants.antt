use Rattle.std.proofs.Common.{length}
use Rattle.gs_layout.specs.View.{look_up}
use Rattle.gs_policy.specs.Shown.{shows}
use Rattle.gs_keyed.specs.Order.{all_after}
use Rattle.gs_keyed.proofs.Walks.{IsCounting, ranked}
use Rattle.gs_keyed.proofs.walk.count_by_key.Given as goal

abbrev pub invariant-loop-left : goal.invariant-loop-left
invariant-loop-left g l = IsCounting (look_up l.view.entries) l.fn.all l.left l.count l.last (ranked (g.K.Key.key_of l.key) (shows l.view.entries l.cpus l.queue))

abbrev pub decreases-loop-left : goal.decreases-loop-left
decreases-loop-left g l = length (all_after l.last (ranked (g.K.Key.key_of l.key) (shows l.view.entries l.cpus l.queue)))
