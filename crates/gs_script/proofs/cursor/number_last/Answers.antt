use Rattle.gs_script.proofs.PlainLines.{number_ends}
use Rattle.gs_script.proofs.cursor.number_last.Goals as goal

pub returns-clause-number : goal.returns-clause-number
returns-clause-number c = number_ends c.args.most c.in_ok-number.number c.args.text.now c.in_ok-number.rest.now c.in_ok-left.left c.in_ok-number.ensures.number c.in_ok-left.ensures
