use Rattle.std.proofs.Common.{◌-◌}
use Rattle.gs_ring.proofs.Next.{IsTaking}
use Rattle.gs_ring.proofs.ring.ByteRing.consume.Given as goal

abbrev pub invariant-loop-self : goal.invariant-loop-self
invariant-loop-self l = IsTaking l.initial.self l.self l.end

abbrev pub decreases-loop-self : goal.decreases-loop-self
decreases-loop-self l = l.end - l.self.read
