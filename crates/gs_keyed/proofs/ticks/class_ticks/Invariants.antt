use Rattle.std.proofs.Common.{◌≡◌, ◌≤◌, ◌*◌, take}
use Rattle.std.specs.List.{sum_by}
use Rattle.gs_layout.specs.View.{look_up}
use Rattle.gs_keyed.specs.Ticks.{ticks_had}
use Rattle.gs_keyed.proofs.ticks.class_ticks.Given as goal

abbrev pub invariant-loop-cpu : goal.invariant-loop-cpu
invariant-loop-cpu l = record {
  so_far : l.ticks ≡ sum_by (ticks_had l.class (look_up l.view.entries)) (take l.cpu l.cpus.beliefs.now.believed);
  most : l.ticks ≤ l.cpu * 65535;
}
