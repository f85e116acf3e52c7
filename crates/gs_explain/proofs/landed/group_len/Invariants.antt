use Rattle.std.proofs.Common.{◌≡◌, ◌≤◌, ◌-◌, ◌++◌, take, drop, length}
use Rattle.gs_explain.specs.Moment.{moment_of}
use Rattle.gs_explain.specs.Landings.{is_grouped, leading}
use Rattle.gs_explain.proofs.landed.group_len.Given as goal

abbrev pub invariant-loop-n : goal.invariant-loop-n
invariant-loop-n l =
    record {
      within : l.n ≤ length l.landings;
      so_far : take l.n l.landings ++ leading (is_grouped (moment_of l.scene)) (drop l.n l.landings) ≡ leading (is_grouped (moment_of l.scene)) l.landings;
    }

abbrev pub decreases-loop-n : goal.decreases-loop-n
decreases-loop-n l = length l.landings - l.n
