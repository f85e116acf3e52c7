use Rattle.std.proofs.Common.{◌≤◌, ◌-◌, length, take}
use Rattle.gs_reasons.specs.Kept.{HasHeard}
use Rattle.gs_explain.proofs.hearing.hear_all.Given as goal

abbrev pub invariant-loop-n : goal.invariant-loop-n
invariant-loop-n l = record { within : l.n ≤ length l.journal.entries; heard : HasHeard l.index (take l.n l.journal.entries) }

abbrev pub decreases-loop-n : goal.decreases-loop-n
decreases-loop-n l = length l.journal.entries - l.n
