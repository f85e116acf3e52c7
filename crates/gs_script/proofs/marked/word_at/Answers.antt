use Rattle.std.proofs.Common.{◌<◌, ◌≤◌, List, ℕ, length, subst, arith}
use Rattle.gs_script.proofs.Marking.{Lettered, Spaced, begun, went_on, word_marked}
use Rattle.gs_script.proofs.marked.word_at.Goals.{then-loop-before-test+else-start-line, else-loop-before-test}
use Rattle.gs_script.proofs.marked.word_at.Goals as goal

pub loop-before-init : goal.loop-before-init
loop-before-init c =
    let spaced : Spaced c.args.line.now c.spaces-start.result =
    record { within = c.spaces-start.ensures.within; spaces = c.spaces-start.ensures.spaces; ended = c.spaces-start.ensures.ended } in
    (omega arith, begun c.args.line.now c.spaces-start.result spaced)

pub loop-before-preserved : goal.loop-before-preserved
loop-before-preserved c =
    let line = c.args.line.now in
    let start = c.loop-before.start in
    let n = c.letters.result in
    let m = c.spaces.result in
    let lettered : Lettered c.split_at.result.1.now n = record { within = c.letters.ensures.within; letters = c.letters.ensures.letters; ended = c.letters.ensures.ended } in
    let spaced : Spaced c.split_at-in-loop-before.result.1.now m = record { within = c.spaces.ensures.within; spaces = c.spaces.ensures.spaces; ended = c.spaces.ensures.ended } in
    let lt : c.loop-before.before < c.args.place = omega arith in (
      omega arith,
      went_on line c.loop-before.end start c.loop-before.before n m c.loop-before.invariant.1 c.if-start-line.true
          (subst (λ (xs : List ℕ). Lettered xs n) c.split_at.ensures.back lettered)
          (subst (λ (xs : List ℕ). Spaced xs m) c.split_at-in-loop-before.ensures.back spaced),
    )

pub returns : goal.returns
returns c =
    let line = c.args.line.now in
    let start = c.loop-before.start in
    let n = c.letters-2.result in
    let lettered : Lettered c.split_at-2.result.1.now n = record { within = c.letters-2.ensures.within; letters = c.letters-2.ensures.letters; ended = c.letters-2.ensures.ended } in
    let before_end = c.if-start-line-2.false in
    let lt : start < length line = omega arith in
    let reached : c.args.place ≤ c.loop-before.before =
    elim c.loop-before-test.branch [
      | then-loop-before-test+else-start-line w ↦ let past = w.if-start-line.false in absurd (omega arith)
      | else-loop-before-test w ↦ let f = w.loop-before-test.false in omega arith
    ] in
    word_marked line c.loop-before.end start c.loop-before.before c.args.place n c.cut-2.result c.loop-before.invariant.1 lt c.loop-before.invariant.0 reached
    (subst (λ (xs : List ℕ). Lettered xs n) c.split_at-2.ensures.back lettered) c.cut-2.ensures
