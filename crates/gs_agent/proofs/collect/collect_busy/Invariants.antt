use Rattle.gs_slots.proofs.Laws.{ahead}
use Rattle.gs_agent.proofs.Collecting.{IsWalked}
use Rattle.gs_agent.proofs.collect.collect_busy.Given as goal

abbrev pub invariant-walk : goal.invariant-walk
invariant-walk l = IsWalked l.fn.group l.fn.region l.fn.mind l.left l.region l.mind

abbrev pub decreases-walk : goal.decreases-walk
decreases-walk l = ahead l.left
