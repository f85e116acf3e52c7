use Rattle.std.proofs.Common.{◌≡◌}
use Rattle.gs_trace.specs.Watched.{told_by}
use Rattle.gs_trace.proofs.noting.Noting.add_choices.Given as goal

abbrev pub invariant-loop-choice : goal.invariant-loop-choice
invariant-loop-choice l = told_by l.self.marks.items ≡ told_by l.fn.self.marks.items
