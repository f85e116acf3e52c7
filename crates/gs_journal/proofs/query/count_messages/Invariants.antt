use Rattle.std.proofs.Common.{◌≡◌, ◌≤◌, length, take}
use Rattle.gs_journal.specs.History.{messages}
use Rattle.gs_journal.proofs.query.count_messages.Given as goal

abbrev pub invariant-loop-place : goal.invariant-loop-place
invariant-loop-place l = record { count : l.count ≡ length (messages (take l.place l.journal.entries) l.tid); few : l.count ≤ l.place }
