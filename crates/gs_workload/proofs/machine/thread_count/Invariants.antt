use Rattle.std.proofs.Common.{◌≡◌, ◌≤◌, ◌*◌, ◌^◌, take}
use Rattle.gs_workload.specs.Machine.{threads}
use Rattle.gs_workload.proofs.machine.thread_count.Given as goal

abbrev pub invariant-loop-group : goal.invariant-loop-group
invariant-loop-group l =
    record {
      so_far : l.count ≡ threads (take l.group-index l.groups);
      fits : l.count ≤ l.group-index * 2 ^ 32;
    }
