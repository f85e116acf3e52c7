use Rattle.gs_workers.proofs.Listing.{one_more_list}
use Rattle.gs_workers.proofs.work.all_creations.Goals as goal

pub loop-worker-preserved : goal.loop-worker-preserved
loop-worker-preserved c =
    one_more_list c.args.work.each c.loop-worker.worker c.loop-worker.lists.items c.push.new.self.items c.in_ok-creations.field-0 c.loop-worker.invariant c.in_ok-creations.ensures c.in_ok-push.ensures.items
