use Rattle.std.proofs.Common.{◌≡◌, ◌≤◌, ◌++◌, length, take, true}
use Rattle.gs_reasons.specs.Kept.{HasHeard}
use Rattle.gs_explain.specs.Composed.{behind_commas}
use Rattle.gs_explain.specs.Moment.{moment_of}
use Rattle.gs_explain.specs.Objects.{landings_why}
use Rattle.gs_explain.proofs.whys.push_landings.Given as goal

abbrev pub invariant-landings : goal.invariant-landings
invariant-landings l =
    record {
      within : l.n ≤ length l.scene.journal.now.entries;
      heard : HasHeard l.index (take l.n l.scene.journal.now.entries);
      shown : l.out ++ behind_commas (landings_why (moment_of l.scene) l.fault l.stood l.n l.rest) ≡ l.fn.out ++ behind_commas (landings_why (moment_of l.scene) l.fault true l.fn.heard l.fn.landings);
    }

abbrev pub decreases-landings : goal.decreases-landings
decreases-landings l = length l.rest
