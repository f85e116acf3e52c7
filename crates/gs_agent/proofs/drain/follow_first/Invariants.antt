use Rattle.std.proofs.Common.{◌-◌}
use Rattle.gs_ring.specs.Batches.{messages_of}
use Rattle.gs_agent.proofs.Draining.{FollowedSoFar}
use Rattle.gs_agent.proofs.drain.follow_first.Given as goal

abbrev pub invariant-messages : goal.invariant-messages
invariant-messages l = FollowedSoFar (messages_of l.fn.batch) l.max l.fn.drained l.fn.mind l.drained l.mind l.left

abbrev pub decreases-messages : goal.decreases-messages
decreases-messages l = l.max - l.drained.count
