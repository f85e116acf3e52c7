use Rattle.std.proofs.Common.{◌≡◌, ◌++◌, drop, map, take}
use Rattle.gs_turns.specs.Knowing.{ended}
use Rattle.gs_turns.proofs.threads.end_all.Given as goal

abbrev pub invariant-loop-known : goal.invariant-loop-known
invariant-loop-known l = l.table ≡ map ended (take l.known-index l.fn.table) ++ drop l.known-index l.fn.table
