use Rattle.gs_script.proofs.PlainLines.{number_ends}
use Rattle.gs_script.proofs.cursor.mask_last.Goals as goal

pub returns : goal.returns
returns c = record { number = number_ends 340282366920938463463374607431768211455 c.in_ok-number.number c.args.text.now c.in_ok-number.rest.now c.in_ok-left.left c.in_ok-number.ensures c.in_ok-left.ensures }
