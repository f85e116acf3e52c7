use Rattle.std.proofs.Common.{◌≡◌, List, length}
use Rattle.gs_layout.specs.declared.message.Message.{Message}
use Rattle.gs_ring.specs.Ends.{Passed}
use Rattle.gs_ring.proofs.ring.ByteRingTaker.pass.Given as goal

-- as many were consumed as rounds went by
abbrev pub invariant-loop : goal.invariant-loop
invariant-loop l = (done : List Message) × Passed l.initial.self done l.self × (length done ≡ l.counter)
