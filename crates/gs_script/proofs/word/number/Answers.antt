use Rattle.std.proofs.Common.{arith, sym}
use Rattle.gs_script.proofs.Numbers.{parsed, unparsed}
use Rattle.gs_script.proofs.word.number.Goals as goal

pub returns-in_default-clause-exact : goal.returns-in_default-clause-exact
returns-in_default-clause-exact c =
    sym (unparsed 64 c.args.least c.args.most _ c.args.word.now c.parse.result c.parse.ensures.value.0 c.in_default.is (sym c.if-not-is_plain.ensures) (omega arith))

pub returns-clause-exact : goal.returns-clause-exact
returns-clause-exact c =
    sym (parsed 64 c.args.least c.args.most c.in-Ok.n c.args.word.now c.parse.result c.parse.ensures.value.0 c.in-Ok.is (sym c.if-not-is_plain.ensures) (omega arith) (omega arith))
