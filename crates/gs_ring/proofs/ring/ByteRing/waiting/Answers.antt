use Rattle.std.proofs.Common.{◌≡◌, ℕ, ◌-◌, List, ◌++◌, length, ap, sym, ◌∙◌}
use Rattle.std.specs.Prelude.{min}
use Rattle.gs_ring.specs.declared.ring.ByteRing.TheInside.{Inside}
use Rattle.gs_ring.specs.Block.{IsRing, ring_of, seen}
use Rattle.gs_ring.specs.Places.{bytes, rest}
use Rattle.gs_ring.specs.RingState.{RingState, end}
use Rattle.gs_ring.specs.Segments.{Stands}
use Rattle.gs_ring.proofs.Held.{length-messages_in}
use Rattle.gs_ring.proofs.Laps.{front_stands}
use Rattle.gs_ring.proofs.Standing.{read_segments}
use Rattle.gs_ring.proofs.ring.ByteRing.waiting.Goals as goal

stands : (i : Inside) (v : RingState) (f s : List ℕ) → IsRing i.block.items i.read.count i.written.count i.consumed i.posts → ring_of i.block.items i.read.count i.written.count i.consumed i.posts ≡ v
    → f ++ s ≡ bytes v.capacity v.read v.unread → length f ≡ min (end v - v.read) (rest v.capacity v.read) → Stands f s v.unread
stands i v f s h view value first = front_stands i.block.items i.read.count i.written.count i.consumed i.posts v h view f s value first

count : (i : Inside) (v : RingState) → ring_of i.block.items i.read.count i.written.count i.consumed i.posts ≡ v → length v.unread ≡ i.posts - i.consumed
count i v view = ap (λ (x : RingState). length x.unread) (sym view) ∙ length-messages_in (i.posts - i.consumed) (seen i.block.items i.read.count (i.written.count - i.read.count))

pub new-requires : goal.new-requires
new-requires c =
    let i = c.self.inside in
    let v = c.args.self.now in
    (v.unread, stands i v c.front.result.0.now c.front.result.1.now c.self.invariant.ring c.self.view_is c.front.ensures.value c.front.ensures.first, count i v c.self.view_is)

pub returns : goal.returns
returns c =
    let i = c.self.inside in
    let v = c.args.self.now in
    c.new.ensures
    ∙ read_segments c.front.result.0.now c.front.result.1.now v.unread (i.posts - i.consumed)
    (stands i v c.front.result.0.now c.front.result.1.now c.self.invariant.ring c.self.view_is c.front.ensures.value c.front.ensures.first)
    (count i v c.self.view_is)
