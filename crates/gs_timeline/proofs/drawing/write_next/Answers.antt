use Rattle.std.proofs.Common.{◌≡◌, ◌<◌, ◌≤◌, Option, Result, Ok, Err, OnOk, refl, subst, false, true, map, nat_lt, slice_get, List, ℕ, arith}
use Rattle.std.proofs.lemmas.Bool.Decides.{nat_tests}
use Rattle.std.proofs.lemmas.Result.{on_ok_weaker}
use Rattle.gs_layout.specs.declared.facts.Class.{Class}
use Rattle.gs_timeline.specs.Bars.{bar_pieces, scale, width_in}
use Rattle.gs_timeline.specs.Endings.{ending_of}
use Rattle.gs_timeline.specs.Lives.{born, class_among}
use Rattle.gs_timeline.specs.Pieces.{Adds}
use Rattle.gs_timeline.specs.declared.ending.Ending.{Ending}
use Rattle.gs_timeline.specs.declared.stay.Stay.{Stay}
use Rattle.gs_timeline.proofs.Pieces.{adds_if, adds_unless}
use Rattle.gs_timeline.proofs.drawing.write_next.Goals as goal

wide : (n m : ℕ) → n ≡ m → 0 < n → nat_lt 0 m ≡ true
wide n m e lt = grind (arith, nat_tests)

narrow : (n m : ℕ) → n ≡ m → n ≤ 0 → nat_lt 0 m ≡ false
narrow n m e le = grind (arith, nat_tests)

on_ok : {X E P : Type 0} (r : Result X E) → P → OnOk r P
on_ok (Ok x) p = p
on_ok (Err e) p = tt

pub returns-then-width-gt0 : goal.returns-then-width-gt0
returns-then-width-gt0 c =
    let h = c.args.endings.now in
    let v = scale c.args.part.now in
    let classes = class_among (map born c.args.lives.now) in
    let x : Stay = c.args.stay.now in
    let drawn = bar_pieces v (classes x.tid) (ending_of (slice_get h x.to)) x in
    let middle = c.write.new.out.settled in
    let after = c.write_stay.new.out.settled in
    on_ok_weaker c.write_stay.result
    (λ added.
    let told = subst (λ (k : Option Class). Adds (bar_pieces v k c.at-ending.result x) middle after) c.life_of-life.ensures added in
    let same = subst (λ (e : Ending). Adds (bar_pieces v (classes x.tid) e x) middle after) c.at-ending.ensures told in
    let from = subst (λ (t : List ℕ). Adds drawn t after) c.write.ensures same in
    adds_if (nat_lt 0 (width_in v x)) drawn c.args.out.now.settled after (wide c.width.result (width_in v x) c.width.ensures c.if-width-gt0.true) from)
    c.write_stay.ensures

pub returns-then-shown-gt0 : goal.returns-then-shown-gt0
returns-then-shown-gt0 c =
    let v = scale c.args.part.now in
    let x : Stay = c.args.stay.now in
    on_ok c.add.result (adds_unless (nat_lt 0 (width_in v x)) _ _ _ (narrow c.width.result (width_in v x) c.width.ensures c.if-width-gt0.false) c.add.ensures)

pub returns : goal.returns
returns c =
    let v = scale c.args.part.now in
    let x : Stay = c.args.stay.now in
    adds_unless (nat_lt 0 (width_in v x)) _ _ _ (narrow c.width.result (width_in v x) c.width.ensures c.if-width-gt0.false) refl
