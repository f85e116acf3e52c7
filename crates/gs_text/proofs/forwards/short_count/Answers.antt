use Rattle.std.proofs.Common.{arith}
use Rattle.gs_text.proofs.Grown.{digits_four, digits_one, digits_three, digits_two}
use Rattle.gs_text.proofs.forwards.short_count.Goals as goal

pub returns-in-0-to-9 : goal.returns-in-0-to-9
returns-in-0-to-9 c = digits_one c.args.number (omega arith)

pub returns-in-10-to-99 : goal.returns-in-10-to-99
returns-in-10-to-99 c = digits_two c.args.number (omega arith) (omega arith)

pub returns-in-100-to-999 : goal.returns-in-100-to-999
returns-in-100-to-999 c = digits_three c.args.number (omega arith) (omega arith)

pub returns-in_default : goal.returns-in_default
returns-in_default c = digits_four c.args.number (omega arith) (omega arith)
