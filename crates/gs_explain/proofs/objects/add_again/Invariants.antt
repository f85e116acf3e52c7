use Rattle.std.proofs.Common.{◌-◌, ◌≤◌}
use Rattle.gs_explain.specs.Outlined.{again, outlines_text, widened}
use Rattle.gs_explain.specs.Retold.{Moves}
use Rattle.gs_explain.proofs.objects.add_again.Given as goal

abbrev pub invariant-loop-n : goal.invariant-loop-n
invariant-loop-n g l =
    (l.n ≤ l.short.times) × Moves (g.W.Write.contents l.fn.writer) l.fn.block (outlines_text l.text (again (widened l.asides l.short) l.n)) (g.W.Write.contents l.writer) l.block

abbrev pub decreases-loop-n : goal.decreases-loop-n
decreases-loop-n g l = l.short.times - l.n
