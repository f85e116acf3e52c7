use Rattle.std.proofs.Common.{◌≡◌, ◌+◌, ap, sym, ◌∙◌, arith}
use Rattle.gs_ring.specs.declared.ring.ByteRing.TheInside.{Inside}
use Rattle.gs_ring.specs.Block.{ring_of}
use Rattle.gs_ring.specs.RingState.{RingState}
use Rattle.gs_ring.proofs.Next.{all_taken, end_in, read_in, start_taking, take_one, within_end}
use Rattle.gs_ring.proofs.ring.ByteRing.consume.Goals as goal

-- the place that the ring is read from
reads_at : (i : Inside) (v : RingState) → ring_of i.block.items i.read.count i.written.count i.consumed i.posts ≡ v → i.read.count ≡ v.read
reads_at i v view = read_in i.block.items i.read.count i.written.count i.consumed i.posts v view

pub overflow_add-end : goal.overflow_add-end
overflow_add-end c =
    let i = c.self.inside in
    let v = c.args.self.now in
    omega (arith, within_end v c.requires.0 c.requires.1, c.requires.2, reads_at i v c.self.view_is, end_in i.block.items i.read.count i.written.count i.consumed i.posts v c.self.invariant.ring c.self.view_is, c.self.invariant.ring.low, c.self.invariant.ring.few)

pub loop-self-init : goal.loop-self-init
loop-self-init c =
    let i = c.self.inside in
    let v = c.args.self.now in
    start_taking v (i.read.count + c.args.n) (c.requires.0, c.requires.1, c.requires.2 ∙ ap (λ k. k + c.args.n) (sym (reads_at i v c.self.view_is)))

pub loop-self-smaller : goal.loop-self-smaller
loop-self-smaller c =
    let i = c.self-in-loop-self.inside in
    let at = reads_at i c.loop-self.self c.self-in-loop-self.view_is in
    let s = take_one c.args.self.now c.loop-self.self c.pop.new.self (c.self.inside.read.count + c.args.n) c.loop-self.invariant (omega (arith, at, c.loop-self-test.true)) c.pop.ensures in
    omega (arith, s.1, s.2)

pub loop-self-preserved : goal.loop-self-preserved
loop-self-preserved c =
    let i = c.self-in-loop-self.inside in
    let at = reads_at i c.loop-self.self c.self-in-loop-self.view_is in
    (take_one c.args.self.now c.loop-self.self c.pop.new.self (c.self.inside.read.count + c.args.n) c.loop-self.invariant (omega (arith, at, c.loop-self-test.true)) c.pop.ensures).0

pub returns : goal.returns
returns c = λ ms ahead place.
    let i = c.self-in-loop-self.inside in
    let at = reads_at i c.loop-self.self c.self-in-loop-self.view_is in
    let first = reads_at c.self.inside c.args.self.now c.self.view_is in
    all_taken c.args.self.now c.loop-self.self (c.self.inside.read.count + c.args.n) c.loop-self.invariant (omega (arith, at, c.loop-self-test.false)) ms ahead (place ∙ ap (λ k. k + c.args.n) (sym first))
