use Rattle.gs_workers.proofs.Listing.{one_more}
use Rattle.gs_workers.proofs.work.creations.Goals as goal

pub loop-turn-preserved : goal.loop-turn-preserved
loop-turn-preserved c =
    one_more c.args.worker c.loop-turn.turn c.loop-turn.list.items c.extend_from_slice.new.self.items c.in_ok-creation.field-0 c.loop-turn.invariant c.in_ok-creation.ensures c.in_ok-extend_from_slice.ensures.items
