use Rattle.std.proofs.Common.{◌≡◌, [], replicate}
use Rattle.gs_turns.proofs.ticks.no_ticks.Given as goal

abbrev pub invariant-loop : goal.invariant-loop
invariant-loop l = l.all.items ≡ replicate l.counter []
