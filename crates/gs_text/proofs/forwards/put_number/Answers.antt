use Rattle.std.proofs.Common.{arith, decimal, take}
use Rattle.gs_text.proofs.Grown.{both_utf8, digits_most, number_put, number_utf8}
use Rattle.gs_text.proofs.forwards.put_number.Goals as goal

pub overflow_add-end : goal.overflow_add-end
overflow_add-end c = omega (arith, digits_most c.args.number c.ranges.number.fits)

pub write_digits-requires : goal.write_digits-requires
write_digits-requires c = (omega (arith, c.digit_count.ensures), omega (arith, digits_most c.args.number c.ranges.number.fits))

pub returns-clause-end : goal.returns-clause-end
returns-clause-end c = omega (arith, digits_most c.args.number c.ranges.number.fits)

pub returns-clause-written : goal.returns-clause-written
returns-clause-written c =
    number_put c.args.number c.args.at c.write_digits.result _ c.args.bytes.now c.write_digits.new.buf c.write_digits.ensures.start (omega arith) (omega (arith, digits_most c.args.number c.ranges.number.fits)) c.write_digits.ensures.written c.write_digits.ensures.before

pub returns-clause-utf8 : goal.returns-clause-utf8
returns-clause-utf8 c = λ before. both_utf8 (take c.args.at c.args.bytes.now) (decimal c.args.number) _ (returns-clause-written c) (number_utf8 c.args.number c.ranges.number.fits) before
