use Rattle.std.proofs.Common.{◌≡◌, ◌+◌, length}
use Rattle.gs_usage.specs.Waiting.{IsLonger}
use Rattle.gs_usage.proofs.threads.make_room.Given as goal

abbrev pub invariant-loop : goal.invariant-loop
invariant-loop l = record {
  room : length l.table.items ≡ length l.fn.table.items + l.counter;
  same : IsLonger l.fn.table.items l.table.items;
}
