use Rattle.std.proofs.Common.{◌≡◌, ◌-◌, [], ◌∷◌, length, ap, sym, ◌∙◌, arith}
use Rattle.gs_layout.specs.declared.message.Message.{Message}
use Rattle.gs_ring.specs.declared.ring.ByteRing.TheInside.{Inside}
use Rattle.gs_ring.specs.Block.{IsHeld, Lies, ring_of, seen}
use Rattle.gs_ring.specs.Ends.{Ahead}
use Rattle.gs_ring.specs.RingState.{RingState}
use Rattle.gs_ring.proofs.Held.{length-messages_in}
use Rattle.gs_ring.proofs.Next.{first_in, head_in}
use Rattle.gs_ring.proofs.ring.ByteRing.first.Goals as goal

record Found (i : Inside) (v : RingState) (m : Message) : Type 0 where
  pub ahead : Ahead v (m ∷ [])
  pub lies : Lies i.block i.read.count m

found : (i : Inside) (v : RingState) → IsHeld i.block i.read i.written i.consumed i.posts → ring_of i.block.items i.read.count i.written.count i.consumed i.posts ≡ v
    → (i.consumed ≡ i.posts → ⊥) → (m : Message) × Found i v m
found i v h view some =
    let n : length v.unread ≡ i.posts - i.consumed = ap (λ (x : RingState). length x.unread) (sym view) ∙ length-messages_in (i.posts - i.consumed) (seen i.block.items i.read.count (i.written.count - i.read.count)) in
    let m = head_in v (omega (arith, n, h.ring.order, some)) in
    (m.0, record { ahead = m.1; lies = (first_in i.block i.read.count i.written.count i.consumed i.posts v m.0 h.ring h.touched view m.1).lies })

pub message_at-requires-clause-lies : goal.message_at-requires-clause-lies
message_at-requires-clause-lies c =
    let f = found c.self.inside c.args.self.now c.self.invariant c.self.view_is c.if-self.false in
    (f.0, f.1.lies)

pub returns : goal.returns
returns c =
    let f = found c.self.inside c.args.self.now c.self.invariant c.self.view_is c.if-self.false in
    let e = c.message_at.ensures f.0 f.1.lies in
    (f.1.ahead.0, f.1.ahead.1 ∙ ap (λ (m : Message). m ∷ f.1.ahead.0) (sym e))
