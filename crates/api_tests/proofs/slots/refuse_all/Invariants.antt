use Rattle.std.proofs.Common.{◌≡◌, ◌≤◌, ◌++◌, take, drop}
use Rattle.gs_slots.specs.Reading.{by_cpu}
use Rattle.api_tests.specs.Stale.{stale_in}
use Rattle.api_tests.proofs.slots.refuse_all.Given as goal

abbrev pub invariant-loop-cpu : goal.invariant-loop-cpu
invariant-loop-cpu l = record {
  slots : l.region ≡ by_cpu stale_in 0 (take l.cpu l.initial.region) ++ drop l.cpu l.initial.region;
  few : l.count ≤ l.cpu;
}
