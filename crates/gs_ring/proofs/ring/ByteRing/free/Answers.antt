use Rattle.gs_ring.proofs.ring.ByteRing.free.Goals as goal

pub overflow_sub-result : goal.overflow_sub-result
overflow_sub-result c = c.self.invariant.ring.forward
