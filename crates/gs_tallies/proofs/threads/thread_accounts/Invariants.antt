use Rattle.std.proofs.Common.{length, take}
use Rattle.std.specs.List.{AllZip, filter, range_with_len}
use Rattle.gs_tallies.specs.Accounts.{IsAccountOfThread, is_created}
use Rattle.gs_tallies.proofs.threads.thread_accounts.Given as goal

abbrev pub invariant-loop-tid : goal.invariant-loop-tid
invariant-loop-tid l = AllZip (IsAccountOfThread l.threads l.fn.turns l.fn.landings) (filter (is_created l.threads) (take l.tid (range_with_len 0 (length l.threads)))) l.accounts.items
