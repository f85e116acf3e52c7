use Rattle.gs_slots.proofs.Busy.{IsLooked, ahead}
use Rattle.gs_slots.proofs.region.busy_of.Given as goal

abbrev pub invariant-looking : goal.invariant-looking
invariant-looking l = IsLooked l.blocks l.busy l.flagged l.left

abbrev pub decreases-looking : goal.decreases-looking
decreases-looking l = ahead l.left
