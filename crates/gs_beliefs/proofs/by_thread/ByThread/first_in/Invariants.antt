use Rattle.std.proofs.Common.{◌≡◌, ℕ, false}
use Rattle.gs_status.specs.Masks.{has}
use Rattle.gs_beliefs.specs.ByThread.{stands}
use Rattle.gs_beliefs.specs.Cpus.{is_just}
use Rattle.gs_beliefs.proofs.Marks.{remaining}
use Rattle.gs_beliefs.proofs.by_thread.ByThread.first_in.Given as goal

-- the thread stands on no CPU that is left out
abbrev pub invariant-loop-cpu : goal.invariant-loop-cpu
invariant-loop-cpu l = (c : ℕ) → has l.left c ≡ false → is_just l.tid (stands l.self c) ≡ false

abbrev pub decreases-loop-cpu : goal.decreases-loop-cpu
decreases-loop-cpu l = remaining l.left
