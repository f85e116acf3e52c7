use Rattle.std.proofs.Common.{◌≡◌}
use Rattle.gs_timeline.specs.Stays.{all_stays}
use Rattle.gs_timeline.proofs.walk.all_stays.Given as goal

abbrev pub invariant-loop-cpu : goal.invariant-loop-cpu
invariant-loop-cpu l = l.all.items ≡ all_stays l.journal.entries l.cpu
