use Rattle.std.proofs.Common.{arith, take}
use Rattle.std.proofs.lemmas.Grind.{common_steps}
use Rattle.gs_text.proofs.Grown.{both_utf8}
use Rattle.gs_text.proofs.forwards.put.Goals as goal

pub returns-clause-written : goal.returns-clause-written
returns-clause-written c = grind (arith, common_steps)

pub returns-clause-utf8 : goal.returns-clause-utf8
returns-clause-utf8 c = λ more before. both_utf8 (take c.args.at c.args.bytes.now) c.args.more.now _ (returns-clause-written c) more before
