use Rattle.std.proofs.Common.{◌≡◌}
use Rattle.toml.specs.View.{table_view}
use Rattle.gs_workload.specs.Unknown.{stray_in}
use Rattle.gs_workload.proofs.Words.{first_stray}
use Rattle.gs_workload.proofs.unknown.unknown_in.Given as goal

abbrev pub invariant-loop-key : goal.invariant-loop-key
invariant-loop-key l = first_stray l.part l.key-iterator ≡ stray_in l.part (table_view l.table)
