use Rattle.std.proofs.Common.{◌≡◌, ◌++◌, take}
use Rattle.std.specs.List.{flat_map}
use Rattle.gs_tables.specs.Latency.{landing_shown}
use Rattle.gs_tables.proofs.latency.push_outcomes.Given as goal

abbrev pub invariant-loop-outcome : goal.invariant-loop-outcome
invariant-loop-outcome l = l.out ≡ l.fn.out ++ flat_map (landing_shown l.notation l.account) (take l.outcome-index l.outcomes)
