use Rattle.std.proofs.Common.{◌≡◌, take}
use Rattle.gs_journal.specs.History.{torn}
use Rattle.gs_journal.proofs.query.was_torn.Given as goal

abbrev pub invariant-loop-place : goal.invariant-loop-place
invariant-loop-place l = l.before ≡ torn (take l.place l.journal.entries)
