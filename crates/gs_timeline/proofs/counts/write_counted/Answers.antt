use Rattle.std.proofs.Common.{◌∷◌, ◌++◌, ◌∙◌, [], ap, codes, subst, flat_map, get_or, List, ℕ}
use Rattle.std.specs.List.{range_with_len}
use Rattle.gs_layout.specs.Outcome.{outcome_numbered}
use Rattle.gs_timeline.specs.Counts.{any_came, sums}
use Rattle.gs_timeline.specs.Pieces.{Adds}
use Rattle.gs_timeline.proofs.Pieces.{adds_last, adds_then, adds_told}
use Rattle.gs_timeline.proofs.Counted.{numbers_more}
use Rattle.gs_timeline.proofs.counts.write_counted.Goals as goal

pub loop-number-2-init : goal.loop-number-2-init
loop-number-2-init c =
    let counts = c.args.counts.now in
    let old = c.args.out.now.settled in
    let begun = c.begin_text.new.out in
    let middle = c.settle.new.self in
    let told = c.push_str.new.self in
    let line = sums counts.stamped counts.placed counts.failed ++ codes "</text>\n" in
    let first = adds_told old begun.told middle.settled (ap (λ t. t.settled) c.settle.ensures ∙ ap (λ (t : List ℕ). t ++ begun.told) c.begin_text.ensures) in
    let nothing = ap (λ t. t.told) c.settle.ensures in
    let written = c.in_ok-push_str.ensures.told ∙ ap (λ (t : List ℕ). t ++ codes "</text>\n") (c.in_ok-write_sums.ensures.told ∙ ap (λ (t : List ℕ). t ++ sums counts.stamped counts.placed counts.failed) nothing) in
    adds_then [] (line ∷ []) old middle.settled c.settle-2.new.self.settled first
    (adds_last line [] middle.settled told.told c.settle-2.new.self.settled written (ap (λ t. t.settled) c.settle-2.ensures ∙ ap (λ (t : List ℕ). t ++ told.told) (c.in_ok-push_str.ensures.settled ∙ c.write_sums.ensures.settled)))

pub loop-number-2-preserved : goal.loop-number-2-preserved
loop-number-2-preserved c =
    let counts = c.args.counts.now in
    let n = c.loop-number-2.number in
    let f : ℕ → List (List ℕ) = λ k. any_came (outcome_numbered k) (get_or counts.outcomes.items k 0) in
    let line = sums counts.stamped counts.placed counts.failed ++ codes "</text>\n" in
    let all = line ∷ flat_map f (range_with_len 0 n) in
    let one = subst (λ (k : ℕ). Adds (any_came (outcome_numbered n) k) c.loop-number-2.out.settled c.write_any.new.out.settled) c.came_to.ensures c.in_ok-write_any.ensures in
    subst (λ ps. Adds (line ∷ ps) c.args.out.now.settled c.write_any.new.out.settled) (numbers_more f n)
    (adds_then all (f n) c.args.out.now.settled c.loop-number-2.out.settled c.write_any.new.out.settled c.loop-number-2.invariant one)
