use Rattle.std.proofs.Common.{◌≡◌, [], length}
use Rattle.gs_layout.specs.View.{look_up}
use Rattle.gs_policy.specs.Candidates.{planned_of}
use Rattle.gs_policy.proofs.walk.ChoicesIterator.next.Given as goal

abbrev pub invariant-loop-self : goal.invariant-loop-self
invariant-loop-self l = planned_of l.self-inside.left (look_up l.self-inside.view.now.entries) [] l.self-inside.threads ≡ l.fn.self

abbrev pub decreases-loop-self : goal.decreases-loop-self
decreases-loop-self l = length l.self-inside.threads
