use Rattle.std.proofs.Common.{◌≡◌, ℕ, ◌+◌, ◌%◌, ◌<◌, ◌≤◌, List, [], ◌∷◌, ◌++◌, length, arith, refl, ap, sym, subst, ◌∙◌}
use Rattle.std.proofs.lemmas.Bool.{false≢true}
use Rattle.std.specs.Prelude.{min}
use Rattle.gs_layout.specs.declared.message.Message.{Message}
use Rattle.gs_ring.specs.declared.memory.TheConstants.{STEP}
use Rattle.gs_ring.specs.declared.ring.ByteRing.TheInside.{Inside}
use Rattle.gs_ring.specs.Block.{IsRing, block_with, ring_of}
use Rattle.gs_ring.specs.Memory.{MemoryState}
use Rattle.gs_ring.specs.Places.{pad_len, record_len}
use Rattle.gs_ring.specs.RingState.{RingState, need_of}
use Rattle.gs_ring.proofs.Held.{Fitting, fitting, need_in, pushed, written_later}
use Rattle.gs_ring.proofs.Pads.{wide}
use Rattle.gs_ring.proofs.Touched.{reaches, stays_few}
use Rattle.gs_ring.proofs.ring.ByteRing.push.Goals as goal
use Rattle.gs_ring.proofs.ring.ByteRing.push.Goals.{After-pad_len-pad, After-write}

record Known (i : Inside) (v : RingState) (m : Message) (k : ℕ) : Type 0 where
  pub pad : k ≡ pad_len (length i.block.items) i.written.count (record_len m)
  pub sizes : Fitting i.block.items i.written.count m k
  pub needs : k + record_len m ≡ need_of v m

-- what the measures of the code say
known : (c : After-pad_len-pad) → Known c.self.inside c.args.self.now c.args.message.now c.pad_len-pad.result
known c =
    let i = c.self.inside in
    let h = c.self.invariant.ring in
    let m = c.args.message.now in
    let e : c.pad_len-pad.result ≡ pad_len (length i.block.items) i.written.count (record_len m) =
    c.pad_len-pad.ensures.value ∙ ap (λ x. pad_len x i.written.count c.record_len-len.result) c.size-capacity.ensures ∙ ap (λ x. pad_len (length i.block.items) i.written.count x) c.record_len-len.ensures in
    record {
      pad = e;
      sizes = fitting i.block.items i.read.count i.written.count i.consumed i.posts m c.pad_len-pad.result h c.requires.spellable e;
      needs = need_in i.block.items i.read.count i.written.count i.consumed i.posts c.args.self.now c.pad_len-pad.result (record_len m) h c.self.view_is e;
    }

pub overflow_add-pad : goal.overflow_add-pad
overflow_add-pad c = omega (arith, (known (goal.at.overflow_add-pad c).After-pad_len-pad).sizes.low, c.record_len-len.ensures)

pub returns-then-pad-len-clause-exact : goal.returns-then-pad-len-clause-exact
returns-then-pad-len-clause-exact c =
    let x = known (goal.at.returns-then-pad-len-clause-exact c).After-pad_len-pad in
    ((λ _. omega (arith, x.needs, c.free.ensures.value, c.if-pad-len.true, c.record_len-len.ensures)), (λ _. refl))

pub write-requires-clause-fits : goal.write-requires-clause-fits
write-requires-clause-fits c = (known (goal.at.write-requires-clause-fits c).After-pad_len-pad).sizes.fits

pub write-requires-clause-whole : goal.write-requires-clause-whole
write-requires-clause-whole c = (known (goal.at.write-requires-clause-whole c).After-pad_len-pad).sizes.whole

pub write-requires-clause-most : goal.write-requires-clause-most
write-requires-clause-most c = omega (arith, (known (goal.at.write-requires-clause-most c).After-pad_len-pad).sizes.low)

pub write-requires-clause-behind : goal.write-requires-clause-behind
write-requires-clause-behind c = (known (goal.at.write-requires-clause-behind c).After-pad_len-pad).sizes.behind

-- the ring after the message was written into its block
record Done (i : Inside) (v : RingState) (m : Message) (k len : ℕ) (new : MemoryState) : Type 0 where
  pub ring : IsRing new.items i.read.count (i.written.count + (k + len)) i.consumed (i.posts + 1)
  pub size : length new.items ≡ length i.block.items
  pub touched : min (i.written.count + (k + len)) (length new.items) ≤ new.touched
  pub few : new.touched ≤ i.written.count + (k + len) + STEP
  pub state : ring_of new.items i.read.count (i.written.count + (k + len)) i.consumed (i.posts + 1) ≡ record { capacity = v.capacity; consumed = v.consumed; read = v.read; unread = v.unread ++ m ∷ [] }

done : (c : After-write) → Known c.self.inside c.args.self.now c.args.message.now c.pad_len-pad.result → Done c.self.inside c.args.self.now c.args.message.now c.pad_len-pad.result c.record_len-len.result c.write.new.self
done c x =
    let i = c.self.inside in
    let k = c.pad_len-pad.result in
    let m = c.args.message.now in
    let b = block_with i.block.items i.written.count k m in
    let p = pushed i.block.items i.read.count i.written.count i.consumed i.posts c.args.self.now m k c.self.invariant.ring c.self.view_is c.requires.spellable c.requires.few x.pad
    (omega (arith, c.free.ensures.value, c.if-pad-len.false, c.record_len-len.ensures)) in
    let f : c.write.new.self.items ≡ b = c.write.ensures.items in
    let z : i.written.count + k + record_len m ≡ i.written.count + (k + c.record_len-len.result) = omega (arith, c.record_len-len.ensures) in
    let same : length c.write.new.self.items ≡ length i.block.items = ap length f ∙ p.size in
    let pos : 0 < length i.block.items = omega (arith, (wide (length i.block.items) c.self.invariant.ring.size).least) in
    let reach = reaches (length i.block.items) i.written.count i.block.touched c.write.new.self.touched (k + record_len m) pos c.self.invariant.touched c.write.ensures.more c.write.ensures.touched in
    let few_ = stays_few (length i.block.items) i.written.count i.block.touched c.write.new.self.touched (k + record_len m) STEP c.self.invariant.few c.write.ensures.few in
    record {
      size = same;
      ring = subst (λ (o : List ℕ). IsRing o i.read.count (i.written.count + (k + c.record_len-len.result)) i.consumed (i.posts + 1)) (sym f) (subst (λ (w : ℕ). IsRing b i.read.count w i.consumed (i.posts + 1)) z p.ring);
      touched = omega (arith, reach, same, c.record_len-len.ensures);
      few = omega (arith, few_, c.record_len-len.ensures);
      state = ap (λ (o : List ℕ). ring_of o i.read.count (i.written.count + (k + c.record_len-len.result)) i.consumed (i.posts + 1)) f
          ∙ ap (λ (w : ℕ). ring_of b i.read.count w i.consumed (i.posts + 1)) (sym z)
          ∙ p.state
          ∙ ap (λ (y : RingState). let z : RingState = record { capacity = y.capacity; consumed = y.consumed; read = y.read; unread = y.unread ++ m ∷ [] } in z) c.self.view_is;
    }

pub further-self-inside-requires-clause-most : goal.further-self-inside-requires-clause-most
further-self-inside-requires-clause-most c =
    let x = known (goal.at.further-self-inside-requires-clause-most c).After-pad_len-pad in
    omega (arith, x.sizes.low, c.record_len-len.ensures, c.size-capacity.ensures, (wide (length c.self.inside.block.items) c.self.invariant.ring.size).least)

pub further-self-inside-requires-clause-low : goal.further-self-inside-requires-clause-low
further-self-inside-requires-clause-low c =
    let x = known (goal.at.further-self-inside-requires-clause-low c).After-pad_len-pad in
    omega (arith, x.sizes.low, c.record_len-len.ensures, c.self.invariant.ring.low, c.self.invariant.ring.few)

pub invariant_of-self : goal.invariant_of-self
invariant_of-self c =
    let i = c.self.inside in
    let d = done (goal.at.invariant_of-self c).After-write (known (goal.at.invariant_of-self c).After-pad_len-pad) in
    written_later c.write.new.self i.read i.written c.further-self-inside.result i.consumed (i.posts + 1) c.size-capacity.result (c.pad_len-pad.result + c.record_len-len.result)
    (c.size-capacity.ensures ∙ sym d.size) d.ring c.further-self-inside.ensures.count c.further-self-inside.ensures.at (c.self.invariant.read_at ∙ ap (λ n. i.read.count % n) (sym d.size)) d.touched d.few

pub returns-clause-exact : goal.returns-clause-exact
returns-clause-exact c =
    let x = known (goal.at.returns-clause-exact c).After-pad_len-pad in
    ((λ h. absurd (false≢true h)), (λ h. absurd (omega (arith, h, x.needs, c.free.ensures.value, c.if-pad-len.false, c.record_len-len.ensures))))

pub returns-clause-ok : goal.returns-clause-ok
returns-clause-ok c =
    let i = c.self.inside in
    let d = done (goal.at.returns-clause-ok c).After-write (known (goal.at.returns-clause-ok c).After-pad_len-pad) in
    ap (λ (w : ℕ). ring_of c.write.new.self.items i.read.count w i.consumed (i.posts + 1)) c.further-self-inside.ensures.count ∙ d.state
