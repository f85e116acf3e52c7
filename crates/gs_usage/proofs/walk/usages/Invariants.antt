use Rattle.std.proofs.Common.{◌≡◌, ◌≤◌, ◌+◌, length, map}
use Rattle.std.specs.List.{range_with_len}
use Rattle.gs_status.specs.declared.mask.TheConstants.{MOST_CPUS}
use Rattle.gs_usage.specs.Boards.{IsBoard}
use Rattle.gs_usage.specs.Uses.{usage_of}
use Rattle.gs_usage.proofs.walk.usages.Given as goal

abbrev pub invariant-loop-cpu : goal.invariant-loop-cpu
invariant-loop-cpu l = record {
  from : l.board.first ≤ l.cpu;
  within : l.cpu ≤ l.board.first + MOST_CPUS;
  board : IsBoard l.journal.entries (length l.journal.entries) l.board;
  all : l.all.items ≡ map (usage_of l.journal.entries) (range_with_len 0 l.cpu);
}
