use Rattle.std.proofs.Common.{arith, sym}
use Rattle.gs_script.proofs.Numbers.{parsed, unparsed}
use Rattle.gs_script.proofs.word.mask.Goals as goal

pub returns-in_default : goal.returns-in_default
returns-in_default c =
    sym (unparsed 128 0 340282366920938463463374607431768211455 _ c.args.word.now c.parse.result c.parse.ensures.value.0 c.in_default.is (sym c.if-not-is_plain.ensures) (omega arith))

pub returns : goal.returns
returns c =
    sym (parsed 128 0 340282366920938463463374607431768211455 c.in-Ok.n c.args.word.now c.parse.result c.parse.ensures.value.0 c.in-Ok.is (sym c.if-not-is_plain.ensures) (omega arith) (omega arith))
