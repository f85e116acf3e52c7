use Rattle.std.proofs.Common.{◌≡◌, ℕ, List, ◌++◌}
use Rattle.gs_layout.specs.declared.known.Known.{Known}
use Rattle.gs_journal.specs.State.{state}
use Rattle.gs_runner.specs.Settles.{AreKnown}
use Rattle.gs_runner.proofs.knowing.are_known.Given as goal

abbrev pub invariant-loop-tid : goal.invariant-loop-tid
invariant-loop-tid l = (seen : List (ℕ × Known)) × (seen ++ l.tid-iterator ≡ l.view.entries) × AreKnown (state l.kernel.settings.first_tseq l.kernel.history) seen
