-- What is left of a walk.
use Rattle.std.specs.Prelude.{ℕ, List, ◌++◌, length, slice_index}
use Rattle.gs_runq.specs.Linked.{walked, Within}
use Rattle.gs_runq.specs.declared.walk.LineWalk.TheInside as line
use Rattle.gs_runq.specs.declared.walk.QueueWalk.TheInside as whole

-- the threads that a walk of a line has still to show
abbrev pub line_rest : line.Inside → List ℕ
line_rest s = walked s.left (slice_index s.next.now) s.at

-- the walk looks at no place outside the table
abbrev pub LineWithin : line.Inside → Type 0
LineWithin s = Within s.left (slice_index s.next.now) (length s.next.now) s.at

-- the threads that a walk of the queue has still to show
abbrev pub walk_rest : whole.Inside → List ℕ
walk_rest s = s.first ++ s.later
