use Rattle.std.proofs.Common.{◌≡◌, take}
use Rattle.gs_journal.specs.History.{on}
use Rattle.gs_journal.proofs.query.thread_on.Given as goal

abbrev pub invariant-loop-place : goal.invariant-loop-place
invariant-loop-place l = l.thread ≡ on (take l.place l.journal.entries) l.cpu
