use Rattle.std.proofs.Common.{◌-◌, ◌≤◌}
use Rattle.gs_layout.specs.View.{look_up}
use Rattle.gs_journal.specs.State.{state}
use Rattle.gs_runner.specs.Settles.{AreSame}
use Rattle.gs_runner.proofs.knowing.are_same.Given as goal

abbrev pub invariant-walk : goal.invariant-walk
invariant-walk l = (l.tid ≤ l.count) × AreSame (state l.kernel.settings.first_tseq l.kernel.history) (look_up l.view.entries) l.tid

abbrev pub decreases-walk : goal.decreases-walk
decreases-walk l = l.count - l.tid
