use Rattle.std.proofs.Common.{◌≡◌, ◌++◌, take}
use Rattle.gs_tables.specs.Latency.{uses_table}
use Rattle.gs_tables.proofs.latency.push_uses.Given as goal

abbrev pub invariant-loop-cpu : goal.invariant-loop-cpu
invariant-loop-cpu l = l.out ≡ l.fn.out ++ uses_table l.notation (take l.cpu l.usages)
