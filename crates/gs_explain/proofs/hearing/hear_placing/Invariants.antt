use Rattle.std.proofs.Common.{◌≡◌, ◌≤◌, ◌+◌, ◌-◌, drop, length, take}
use Rattle.gs_reasons.specs.Kept.{HasHeard}
use Rattle.gs_explain.specs.Landings.{steps_to_placing}
use Rattle.gs_explain.proofs.hearing.hear_placing.Given as goal

abbrev pub invariant-loop-n : goal.invariant-loop-n
invariant-loop-n l =
    record {
      within : l.n ≤ length l.journal.entries;
      heard : HasHeard l.index (take l.n l.journal.entries);
      left : l.n + steps_to_placing (drop l.n l.journal.entries) ≡ l.fn.heard + steps_to_placing (drop l.fn.heard l.journal.entries);
    }

abbrev pub decreases-loop-n : goal.decreases-loop-n
decreases-loop-n l = length l.journal.entries - l.n
