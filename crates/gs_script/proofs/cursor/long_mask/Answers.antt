use Rattle.std.proofs.Common.{rules, arith, sym, ◌≡◌, ◌<◌, length, take, get_or, slice_index_or}
use Rattle.std.proofs.lemmas.Grind.{common_steps}
use Rattle.std.proofs.lemmas.Int.Digits.{digits_value_more}
use Rattle.std.proofs.lemmas.List.{take-append-drop, take_rest}
use Rattle.gs_script.proofs.Digits.{all_more, read_number, worth}
use Rattle.gs_script.proofs.cursor.long_mask.Goals.{else-count-gt1-via-then-count-gt1+else-text-eq48, else-count-gt1-via-else-count-gt1}
use Rattle.gs_script.proofs.cursor.long_mask.Goals as goal

pub loop-count-preserved : goal.loop-count-preserved
loop-count-preserved c =
    let i = c.loop-count.invariant in
    let lt : c.loop-count.count < length c.args.text.now = omega arith in
    let ten = c.in_ok-checked_mul.ensures in
    let sum = c.in_ok-value.ensures in (
      omega arith,
      omega (arith, sum.0, sum.1),
      all_more c.args.text.now c.loop-count.count lt i.2 (search rules),
      omega (arith, ten.1, sum.1, i.3, digits_value_more 10 c.args.text.now c.loop-count.count lt, (worth (slice_index_or c.args.text.now c.loop-count.count 0) (search rules)).2),
    )

pub returns : goal.returns
returns c =
    let i = c.loop-count.invariant in
    let n = c.loop-count.count in
    let text = c.args.text.now in
    let some : 0 < n = omega arith in
    let plain : 1 < n → get_or text 0 0 ≡ 48 → ⊥ =
    elim c.else-count-gt1.branch [
      | else-count-gt1-via-then-count-gt1+else-text-eq48 w ↦ λ more is. let f = w.if-text-eq48.false in grind (arith, common_steps)
      | else-count-gt1-via-else-count-gt1 w ↦ λ more is. let f = w.if-count-gt1.false in grind (arith, common_steps)
    ] in
    record {
      front = take n text;
      cut = rw (take_rest text n) (sym (take-append-drop n text));
      is = read_number 340282366920938463463374607431768211455 text n c.loop-count.value i.0 i.1 i.2 i.3 some plain;
    }
