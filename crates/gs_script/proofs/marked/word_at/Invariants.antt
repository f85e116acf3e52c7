use Rattle.std.proofs.Common.{◌≤◌, ◌-◌}
use Rattle.gs_script.proofs.Marking.{Stands}
use Rattle.gs_script.proofs.marked.word_at.Given as goal

abbrev pub invariant-loop-before : goal.invariant-loop-before
invariant-loop-before l = (l.before ≤ l.place) × Stands l.line l.end l.start l.before

abbrev pub decreases-loop-before : goal.decreases-loop-before
decreases-loop-before l = l.place - l.before
