use Rattle.std.proofs.Common.{arith}
use Rattle.gs_script.proofs.Digits.{narrowed}
use Rattle.gs_script.proofs.cursor.number_first.Goals as goal

pub returns-clause-number : goal.returns-clause-number
returns-clause-number c = narrowed c.args.text.now c.in_ok-number.rest.now c.in_ok-number.number c.args.most c.in_ok-number.ensures (omega arith)
