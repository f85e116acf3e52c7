use Rattle.std.proofs.Common.{◌≡◌, ◌≤◌, ◌^◌, drop}
use Rattle.gs_workload.specs.Machine.{early_from, first_early}
use Rattle.gs_workload.proofs.machine.early.Given as goal

abbrev pub invariant-loop-change : goal.invariant-loop-change
invariant-loop-change l =
    record {
      left : first_early l.changes ≡ early_from l.place l.least (drop l.change-index l.changes);
      place : l.place ≡ l.change-index;
      least : l.least ≤ 2 ^ 32;
    }
