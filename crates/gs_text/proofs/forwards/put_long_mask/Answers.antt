use Rattle.std.proofs.Common.{decimal, take, arith}
use Rattle.std.proofs.lemmas.Grind.{common_steps}
use Rattle.std.proofs.lemmas.Fmt.{length-decimal-le}
use Rattle.gs_text.proofs.Grown.{both_utf8, digits_most, mask_utf8}
use Rattle.gs_text.proofs.forwards.put_long_mask.Goals as goal

pub write_digits-start-requires : goal.write_digits-start-requires
write_digits-start-requires c = (omega (arith, digits_most c.in-Ok.number (omega arith)), omega arith)

pub write_digits-start-requires-in-Err : goal.write_digits-start-requires-in-Err
write_digits-start-requires-in-Err c = (length-decimal-le 3 c.write_tail-top.result (omega arith) (omega arith) (omega arith), omega arith)

pub returns-clause-written : goal.returns-clause-written
returns-clause-written c = grind (arith, common_steps)

pub returns-clause-utf8 : goal.returns-clause-utf8
returns-clause-utf8 c = λ before. both_utf8 (take c.args.at c.args.bytes.now) (decimal c.args.mask) (take c.put.result c.put.new.bytes) (returns-clause-written c) (mask_utf8 c.args.mask (omega arith)) before
