use Rattle.gs_turns.specs.Knowing.{AreKnown}
use Rattle.gs_turns.proofs.walk.hear_up_to.Given as goal

abbrev pub invariant-loop-place : goal.invariant-loop-place
invariant-loop-place l = AreKnown l.journal.entries l.place l.threads
