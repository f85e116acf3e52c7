use Rattle.std.proofs.Common.{◌≤◌, ◌-◌, length, take}
use Rattle.gs_explain.specs.Marked.{IsMarked}
use Rattle.gs_explain.proofs.marking.mark_more.Given as goal

abbrev pub invariant-loop-n : goal.invariant-loop-n
invariant-loop-n l = record { within : l.n ≤ length l.transactions; marked : IsMarked l.last.places.items (take l.n l.transactions) }

abbrev pub decreases-loop-n : goal.decreases-loop-n
decreases-loop-n l = length l.transactions - l.n
