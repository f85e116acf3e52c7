use Rattle.std.proofs.Common.{◌≡◌, take}
use Rattle.gs_journal.specs.History.{last_taken}
use Rattle.gs_journal.proofs.query.is_taken.Given as goal

abbrev pub invariant-loop-place : goal.invariant-loop-place
invariant-loop-place l = l.last ≡ last_taken (take l.place l.journal.entries) l.cpu
