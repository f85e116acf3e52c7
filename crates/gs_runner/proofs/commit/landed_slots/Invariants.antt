use Rattle.gs_slots.proofs.Laws.{ahead}
use Rattle.gs_runner.proofs.Walking.{WalksOver}
use Rattle.gs_runner.proofs.commit.landed_slots.Given as goal

abbrev pub invariant-walk : goal.invariant-walk
invariant-walk l = WalksOver l.fn.mask l.left l.region l.slots.items

abbrev pub decreases-walk : goal.decreases-walk
decreases-walk l = ahead l.left
