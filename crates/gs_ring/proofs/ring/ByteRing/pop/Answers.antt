use Rattle.std.proofs.Common.{◌≡◌, ℕ, ◌+◌, ◌^◌, ◌<◌, ◌≤◌, [], ◌∷◌, length, ap, sym, subst, arith}
use Rattle.gs_layout.specs.declared.message.Message.{Message}
use Rattle.gs_ring.specs.declared.ring.ByteRing.TheInside.{Inside}
use Rattle.gs_ring.specs.Block.{IsRing, ring_of}
use Rattle.gs_ring.specs.Ends.{Ahead, Passed}
use Rattle.gs_ring.specs.Places.{need, record_len}
use Rattle.gs_ring.specs.RingState.{RingState}
use Rattle.gs_ring.proofs.Held.{read_later}
use Rattle.gs_ring.proofs.Next.{first_in, head_in}
use Rattle.gs_ring.proofs.ring.ByteRing.pop.Goals as goal
use Rattle.gs_ring.proofs.ring.ByteRing.pop.Goals.{After-span_at-span}

-- the first message of a ring, and how many bytes it takes up
record Taken (i : Inside) (v : RingState) (m : Message) (span : ℕ) : Type 0 where
  pub ring : IsRing i.block.items (i.read.count + span) i.written.count (i.consumed + 1) i.posts
  pub passed : Passed v (m ∷ []) (ring_of i.block.items (i.read.count + span) i.written.count (i.consumed + 1) i.posts)
  pub most : span ≤ length i.block.items
  pub low : i.read.count + span < 2 ^ 64

taken : (c : After-span_at-span) (m : Message) → Ahead c.args.self.now (m ∷ []) → Taken c.self.inside c.args.self.now m c.span_at-span.result
taken c m ahead =
    let i = c.self.inside in
    let r = i.read.count in
    let f = first_in i.block r i.written.count i.consumed i.posts c.args.self.now m c.self.invariant.ring c.self.invariant.touched c.self.view_is ahead in
    let e : r + need (length i.block.items) r (record_len m) ≡ r + c.span_at-span.result = ap (λ k. r + k) (sym (c.span_at-span.ensures m f.lies)) in
    let q = subst (λ (x : ℕ). IsRing i.block.items x i.written.count (i.consumed + 1) i.posts) e f.ring in
    record {
      ring = q;
      passed = subst (λ (x : ℕ). Passed c.args.self.now (m ∷ []) (ring_of i.block.items x i.written.count (i.consumed + 1) i.posts)) e f.passed;
      most = omega (arith, q.forward, c.self.invariant.ring.room);
      low = omega (arith, q.forward, q.low, q.few);
    }

pub span_at-span-requires-clause-lies : goal.span_at-span-requires-clause-lies
span_at-span-requires-clause-lies c =
    let i = c.self.inside in
    let m = head_in c.args.self.now c.requires in
    (m.0, (first_in i.block i.read.count i.written.count i.consumed i.posts c.args.self.now m.0 c.self.invariant.ring c.self.invariant.touched c.self.view_is m.1).lies)

pub further-self-inside-requires-clause-most : goal.further-self-inside-requires-clause-most
further-self-inside-requires-clause-most c =
    let m = head_in c.args.self.now c.requires in
    let at = (goal.at.further-self-inside-requires-clause-most c).After-span_at-span in
    omega (arith, (taken at m.0 m.1).most, c.size.ensures)

pub further-self-inside-requires-clause-low : goal.further-self-inside-requires-clause-low
further-self-inside-requires-clause-low c =
    let m = head_in c.args.self.now c.requires in
    let at = (goal.at.further-self-inside-requires-clause-low c).After-span_at-span in
    omega (arith, (taken at m.0 m.1).low)

pub invariant_of-self : goal.invariant_of-self
invariant_of-self c =
    let i = c.self.inside in
    let m = head_in c.args.self.now c.requires in
    let at = (goal.at.invariant_of-self c).After-span_at-span in
    let t = taken at m.0 m.1 in
    read_later i.block i.read i.written c.further-self-inside.result (i.consumed + 1) i.posts c.size.result c.span_at-span.result c.size.ensures t.ring c.further-self-inside.ensures.count c.further-self-inside.ensures.at c.self.invariant.written_at
    c.self.invariant.touched c.self.invariant.few

pub returns : goal.returns
returns c = λ m ahead.
    let i = c.self.inside in
    let at = (goal.at.returns c).After-span_at-span in
    subst (λ (r : ℕ). Passed c.args.self.now (m ∷ []) (ring_of i.block.items r i.written.count (i.consumed + 1) i.posts)) (sym c.further-self-inside.ensures.count)
    (taken at m ahead).passed
