use Rattle.std.proofs.Common.{rules, arith, ◌<◌, length, slice_index_or}
use Rattle.std.proofs.lemmas.Int.Digits.{digits_value_more}
use Rattle.gs_script.proofs.Digits.{all_more, short, worth}
use Rattle.gs_script.proofs.cursor.sure_digits.Goals as goal

pub overflow_mul-value : goal.overflow_mul-value
overflow_mul-value c =
    let i = c.loop-count.invariant in
    omega (arith, i.3, short c.args.text.now c.loop-count.count i.0 (omega arith) i.2)

pub overflow_add-value : goal.overflow_add-value
overflow_add-value c =
    let i = c.loop-count.invariant in
    let d = worth (slice_index_or c.args.text.now c.loop-count.count 0) (search rules) in
    omega (arith, i.3, short c.args.text.now c.loop-count.count i.0 (omega arith) i.2)

pub loop-count-preserved : goal.loop-count-preserved
loop-count-preserved c =
    let i = c.loop-count.invariant in
    let lt : c.loop-count.count < length c.args.text.now = omega arith in (
      omega arith,
      omega arith,
      all_more c.args.text.now c.loop-count.count lt i.2 (search rules),
      omega (arith, i.3, digits_value_more 10 c.args.text.now c.loop-count.count lt, (worth (slice_index_or c.args.text.now c.loop-count.count 0) (search rules)).2),
    )
