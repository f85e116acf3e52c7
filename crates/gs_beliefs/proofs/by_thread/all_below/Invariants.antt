use Rattle.std.proofs.Common.{◌≡◌, ℕ}
use Rattle.std.specs.Prelude.{nat_lt}
use Rattle.gs_status.specs.Masks.{has}
use Rattle.gs_beliefs.proofs.by_thread.all_below.Given as goal

abbrev pub invariant-loop-cpu : goal.invariant-loop-cpu
invariant-loop-cpu l = (c : ℕ) → has l.mask c ≡ nat_lt c l.cpu
