use Rattle.std.proofs.Common.{◌≡◌, ℕ, ◌+◌, ◌%◌, ◌<◌, ◌≤◌, ◌⊎◌, inl, inr, ⊎_elim, length, ap, sym, subst, ◌∙◌, arith}
use Rattle.std.specs.Prelude.{max}
use Rattle.std.proofs.lemmas.Bool.{cases_lt}
use Rattle.gs_layout.specs.declared.wire.TheConstants.{ALIGNMENT}
use Rattle.gs_layout.specs.Spelling.{spelling}
use Rattle.gs_ring.specs.Block.{put_at}
use Rattle.gs_ring.specs.Memory.{MemoryState}
use Rattle.gs_ring.specs.Places.{pad_bytes}
use Rattle.gs_ring.specs.declared.memory.TheConstants.{STEP}
use Rattle.gs_ring.proofs.Around.{mod_further, mod_no_further}
use Rattle.gs_ring.proofs.Pads.{length-pad_bytes, pad_bytes_none}
use Rattle.gs_ring.proofs.Written.{length-put_at, put_at-none}
use Rattle.gs_ring.proofs.memory.Memory.write.Goals as goal
use Rattle.gs_ring.proofs.memory.Memory.write.Goals.{Joined-pad-eq0, then-pad-eq0, else-pad-eq0}

-- the memory and the index behind a PAD, if there is one
record Behind (old new : MemoryState) (w pad start : ℕ) : Type 0 where
  pub items : new.items ≡ put_at (w % length old.items) (pad_bytes pad) old.items
  pub at : start ≡ (w + pad) % length old.items
  pub touched : (start ≡ w % length old.items + pad) ⊎ (length old.items ≤ new.touched)
  pub few : new.touched ≤ max old.touched (w % length old.items + pad + STEP)

without : (old new : MemoryState) (w pad start i : ℕ) → i ≡ w % length old.items → pad ≡ 0 → new ≡ old → start ≡ i → Behind old new w pad start
without old new w pad start i at none same there =
    let e : w + pad ≡ w = omega (arith, none) in
    let f : (w + pad) % length old.items ≡ w % length old.items = ap (λ k. k % length old.items) e in
    let t : new.touched ≡ old.touched = ap (λ (m : MemoryState). m.touched) same in
    record {
      items = ap (λ (m : MemoryState). m.items) same ∙ sym (put_at-none (w % length old.items) (pad_bytes pad) old.items (pad_bytes_none pad none));
      at = there ∙ at ∙ sym f;
      touched = inl (omega (arith, there, at, none));
      few = omega (arith, t);
    }

behind : (old new : MemoryState) (w pad start i : ℕ) → i ≡ w % length old.items → new.items ≡ put_at i (pad_bytes pad) old.items → start ≡ (w + pad) % length old.items → i + pad ≤ new.touched
    → new.touched ≤ max old.touched (i + pad + STEP) → Behind old new w pad start
behind old new w pad start i at is there done few =
    let n = length old.items in
    record {
      items = is ∙ ap (λ k. put_at k (pad_bytes pad) old.items) at;
      at = there;
      touched = ⊎_elim (λ (lt : w % n + pad < n). inl (there ∙ mod_further n w pad lt)) (λ (le : n ≤ w % n + pad). inr (omega (arith, le, at, done))) (cases_lt (w % n + pad) n);
      few = omega (arith, at, few);
    }

padded : (c : Joined-pad-eq0) → Behind c.args.self.now c.if-pad-eq0.self c.args.place.count c.args.pad c.if-pad-eq0.start
padded c =
    let old = c.args.self.now in
    let at = c.args.place.count in
    let k = c.args.pad in
    elim c.if-pad-eq0.branch [
      | then-pad-eq0 w ↦ without old c.if-pad-eq0.self at k c.if-pad-eq0.start c.args.place.index c.requires.at w.if-pad-eq0.true w.self-is w.start-is
      | else-pad-eq0 w ↦
          let e = w.write_pad-start.ensures in
          let new = w.write_pad-start.new.self in
          let b = behind old new at k w.write_pad-start.result c.args.place.index c.requires.at e.items e.behind e.touched e.few in
          subst (λ (m : MemoryState). Behind old m at k c.if-pad-eq0.start) (sym w.self-is) (subst (λ i. Behind old new at k i) (sym w.start-is) b)
    ]

-- the memory behind it is as large as before
same_size : (old new : MemoryState) (w pad start : ℕ) → pad % ALIGNMENT ≡ 0 → w % length old.items + pad ≤ length old.items → Behind old new w pad start → length new.items ≡ length old.items
same_size old new w pad start whole fits b =
    ap length b.items ∙ length-put_at (w % length old.items) (pad_bytes pad) old.items (omega (arith, length-pad_bytes pad whole, fits))

pub write_record-requires-clause-small : goal.write_record-requires-clause-small
write_record-requires-clause-small c =
    let at = (goal.at.write_record-requires-clause-small c).Joined-pad-eq0 in
    omega (arith, same_size c.args.self.now c.if-pad-eq0.self c.args.place.count c.args.pad c.if-pad-eq0.start c.requires.whole c.requires.fits (padded at), c.requires.small)

pub returns-clause-items : goal.returns-clause-items
returns-clause-items c =
    let b = padded (goal.at.returns-clause-items c).Joined-pad-eq0 in
    let m = spelling c.args.message.now in
    c.write_record.ensures.items ∙ ap (λ k. put_at k m c.if-pad-eq0.self.items) b.at ∙ ap (λ l. put_at ((c.args.place.count + c.args.pad) % length c.args.self.now.items) m l) b.items

pub returns-clause-touched : goal.returns-clause-touched
returns-clause-touched c =
    let b = padded (goal.at.returns-clause-touched c).Joined-pad-eq0 in
    ⊎_elim
    (λ there. omega (arith, there, c.write_record.ensures.touched))
    (λ all_. omega (arith, all_, c.write_record.ensures.more))
    b.touched

pub returns-clause-few : goal.returns-clause-few
returns-clause-few c =
    let b = padded (goal.at.returns-clause-few c).Joined-pad-eq0 in
    let low = mod_no_further (length c.args.self.now.items) c.args.place.count c.args.pad c.requires.size c.requires.fits in
    omega (arith, low, b.at, b.few, c.write_record.ensures.few)
