use Rattle.std.proofs.Common.{◌≤◌, ◌-◌, length, take}
use Rattle.gs_script.proofs.Lines.{is_unbroken}
use Rattle.gs_script.proofs.cursor.first_line.Given as goal

abbrev pub invariant-loop-end : goal.invariant-loop-end
invariant-loop-end l = (l.end ≤ length l.text) × is_unbroken (take l.end l.text)

abbrev pub decreases-loop-end : goal.decreases-loop-end
decreases-loop-end l = length l.text - l.end
