use Rattle.std.proofs.Common.{◌≡◌, ◌≤◌, ◌++◌, length, take, true}
use Rattle.gs_reasons.specs.Kept.{HasHeard}
use Rattle.gs_explain.specs.Moment.{moment_of}
use Rattle.gs_explain.specs.Landings.{landings_shown}
use Rattle.gs_explain.proofs.landings.write_landings.Given as goal

abbrev pub invariant-landings : goal.invariant-landings
invariant-landings l =
    record {
      within : l.n ≤ length l.scene.journal.now.entries;
      heard : HasHeard l.index (take l.n l.scene.journal.now.entries);
      shown : l.out ++ landings_shown (moment_of l.scene) l.fault l.stood l.n l.rest ≡ l.fn.out ++ landings_shown (moment_of l.scene) l.fault true l.fn.heard l.fn.landings;
    }

abbrev pub decreases-landings : goal.decreases-landings
decreases-landings l = length l.rest
