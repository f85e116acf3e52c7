use Rattle.std.proofs.Common.{◌≡◌, take}
use Rattle.gs_journal.specs.History.{record_in}
use Rattle.gs_journal.proofs.query.last_record.Given as goal

abbrev pub invariant-loop-place : goal.invariant-loop-place
invariant-loop-place l = l.found ≡ record_in (take l.place l.journal.entries) l.tid
