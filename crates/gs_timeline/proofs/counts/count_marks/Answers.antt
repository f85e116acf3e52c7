use Rattle.std.proofs.Common.{◌≡◌, ◌<◌, ◌≤◌, ◌+◌, ◌∙◌, ℕ, Bool, List, false, refl, ap, sym, arith, get_or, length, map, take, if◌then◌else◌}
use Rattle.std.specs.List.{range_with_len}
use Rattle.std.proofs.lemmas.List.{ext_get_or, get_or-replicate, length-replicate, length-take-le, take_all}
use Rattle.std.proofs.lemmas.List.FromFn.{get_or-map-range_with_len}
use Rattle.std.proofs.lemmas.List.Sums.{count_by-le-length}
use Rattle.gs_timeline.specs.Counts.{count_of, is_counted}
use Rattle.gs_timeline.specs.declared.counts.Which.TheVariants.{Failed, Numbered, Placed}
use Rattle.gs_timeline.specs.declared.counts.Which.TheVariants as which
use Rattle.gs_timeline.specs.declared.counts.Which.{Which}
use Rattle.gs_timeline.specs.declared.part.Part.{Part}
use Rattle.gs_timeline.specs.declared.notes.Mark.{Mark}
use Rattle.gs_timeline.specs.declared.notes.What.TheVariants.{Stamped}
use Rattle.gs_timeline.proofs.Counted.{count_more}
use Rattle.gs_timeline.proofs.counts.count_marks.Goals as goal

abbrev none : Mark
none = record { line = 0; entries = 0; cpu = 0; tid = 0; what = Stamped false false }

-- fewer are counted than there are, before the last one
few : (p : Part) (w : Which) (ms : List Mark) (i n : ℕ) → i < length ms → n ≡ count_of p w (take i ms) → n < length ms
few p w ms i n lt is = omega (arith, is, count_by-le-length (is_counted p w) (take i ms), length-take-le i ms (omega arith))

-- one more is counted, if it is of the kind
more : (p : Part) (w : Which) (ms : List Mark) (i n m : ℕ) → i < length ms → n ≡ count_of p w (take i ms) → m ≡ (if is_counted p w (get_or ms i none) then n + 1 else n) → m ≡ count_of p w (take (i + 1) ms)
more p w ms i n m lt is next =
    let q : Mark → Bool = is_counted p w in
    let b : Bool = q (get_or ms i none) in
    next ∙ (ap (λ (v : ℕ). if b then v + 1 else v) is ∙ sym (count_more q ms i none b refl lt))

-- all are counted
counted_all : (p : Part) (w : Which) (ms : List Mark) (i n : ℕ) → length ms ≤ i → n ≡ count_of p w (take i ms) → n ≡ count_of p w ms
counted_all p w ms i n le is = is ∙ ap (count_of p w) (take_all i ms le)

pub loop-mark-init : goal.loop-mark-init
loop-mark-init c = record {
  all = ap length c.requires ∙ length-replicate {A = ℕ} 15 0;
  counts = λ n h. ap (λ (xs : List ℕ). get_or xs n 0) c.requires ∙ get_or-replicate 15 n 0 0 h;
  stamped = refl;
  placed = refl;
  failed = refl;
}

pub count-requires-clause-stamped : goal.count-requires-clause-stamped
count-requires-clause-stamped c = omega (arith, few c.args.part.now which.Stamped c.args.marks.now c.loop-mark.mark-index c.loop-mark.tally.stamped c.loop-mark-test.true c.loop-mark.invariant.stamped)

pub count-requires-clause-placed : goal.count-requires-clause-placed
count-requires-clause-placed c = omega (arith, few c.args.part.now Placed c.args.marks.now c.loop-mark.mark-index c.loop-mark.tally.placed c.loop-mark-test.true c.loop-mark.invariant.placed)

pub count-requires-clause-failed : goal.count-requires-clause-failed
count-requires-clause-failed c = omega (arith, few c.args.part.now Failed c.args.marks.now c.loop-mark.mark-index c.loop-mark.tally.failed c.loop-mark-test.true c.loop-mark.invariant.failed)

pub count_outcome-requires-clause-few : goal.count_outcome-requires-clause-few
count_outcome-requires-clause-few c = λ n h.
    let some : List Mark = take c.loop-mark.mark-index c.args.marks.now in
    omega (arith, c.loop-mark.invariant.counts n h, count_by-le-length (is_counted c.args.part.now (Numbered n)) some, length-take-le c.loop-mark.mark-index c.args.marks.now (omega arith))

pub loop-mark-preserved : goal.loop-mark-preserved
loop-mark-preserved c =
    let p = c.args.part.now in
    let ms = c.args.marks.now in
    let i = c.loop-mark.mark-index in
    let now = c.loop-mark.tally in
    let new = c.count.new.self in
    record {
      all = omega arith;
      counts = λ n h. more p (Numbered n) ms i (get_or c.loop-mark.counts n 0) (get_or c.count_outcome.new.counts n 0) c.loop-mark-test.true (c.loop-mark.invariant.counts n h) (c.count_outcome.ensures n h);
      stamped = more p which.Stamped ms i now.stamped new.stamped c.loop-mark-test.true c.loop-mark.invariant.stamped c.count.ensures.stamped;
      placed = more p Placed ms i now.placed new.placed c.loop-mark-test.true c.loop-mark.invariant.placed c.count.ensures.placed;
      failed = more p Failed ms i now.failed new.failed c.loop-mark-test.true c.loop-mark.invariant.failed c.count.ensures.failed;
    }

pub returns : goal.returns
returns c =
    let p = c.args.part.now in
    let ms = c.args.marks.now in
    let i = c.loop-mark.mark-index in
    let f : ℕ → ℕ = λ (n : ℕ). count_of p (Numbered n) ms in
    record {
      outcomes = ext_get_or 0 c.loop-mark.counts (map f (range_with_len 0 15)) c.loop-mark.invariant.all
          (λ n h.
          let few : n < 15 = omega (arith, c.loop-mark.invariant.all) in
          counted_all p (Numbered n) ms i (get_or c.loop-mark.counts n 0) c.loop-mark-test.false (c.loop-mark.invariant.counts n few)
          ∙ sym (get_or-map-range_with_len f 0 15 n n 0 few (omega arith)));
      stamped = counted_all p which.Stamped ms i c.loop-mark.tally.stamped c.loop-mark-test.false c.loop-mark.invariant.stamped;
      placed = counted_all p Placed ms i c.loop-mark.tally.placed c.loop-mark-test.false c.loop-mark.invariant.placed;
      failed = counted_all p Failed ms i c.loop-mark.tally.failed c.loop-mark-test.false c.loop-mark.invariant.failed;
    }
