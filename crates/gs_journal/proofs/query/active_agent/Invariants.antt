use Rattle.std.proofs.Common.{◌≡◌, take}
use Rattle.gs_journal.specs.History.{active}
use Rattle.gs_journal.proofs.query.active_agent.Given as goal

abbrev pub invariant-loop-place : goal.invariant-loop-place
invariant-loop-place l = l.role ≡ active (take l.place l.journal.entries)
