use Rattle.std.proofs.Common.{length, take}
use Rattle.std.specs.List.{filter, range_with_len}
use Rattle.gs_tallies.specs.Accounts.{is_created}
use Rattle.gs_tables.specs.Rows.{TellsAll}
use Rattle.gs_tables.proofs.rows.push_each.Given as goal

abbrev pub invariant-loop-tid : goal.invariant-loop-tid
invariant-loop-tid l = TellsAll l.notation l.each (filter (is_created l.each.known) (take l.tid (range_with_len 0 (length l.each.known)))) l.fn.rows l.rows
