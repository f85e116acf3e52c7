use Rattle.std.proofs.Common.{◌≡◌, [], ◌∷◌, length, ap, arith}
use Rattle.gs_layout.specs.declared.message.Message.{Message}
use Rattle.gs_ring.specs.Ends.{Passed}
use Rattle.gs_ring.specs.Peek.{message_of}
use Rattle.gs_ring.specs.RingState.{RingState, posts}
use Rattle.api_tests.proofs.ring.pass_through.Goals as goal

-- what passes was posted before
same_posts : (v w : RingState) (m : Message) → Passed v (m ∷ []) w → posts w ≡ posts v
same_posts v w m h = omega (arith, h.consumed, ap length h.unread)

pub returns : goal.returns
returns c =
    let m = message_of c.in_ok-first.field-0 in
    omega (arith, same_posts c.post.new.self c.advance.new.self m (c.advance.ensures m c.in_ok-first.ensures), c.in-Ok.ensures.counts)
