use Rattle.std.proofs.Common.{◌≡◌, take}
use Rattle.gs_history.specs.Journal.{journal_lines}
use Rattle.gs_history.proofs.entry_line.journal_text.Given as goal

abbrev pub invariant-loop-place : goal.invariant-loop-place
invariant-loop-place l = l.out ≡ journal_lines (take l.place l.journal.entries)
