use Rattle.std.proofs.Common.{arith}
use Rattle.gs_text.proofs.Grown.{digits_eight, digits_five, digits_seven, digits_six}
use Rattle.gs_text.proofs.forwards.digit_count.Goals as goal

pub returns-in-10000-to-99999 : goal.returns-in-10000-to-99999
returns-in-10000-to-99999 c = digits_five c.args.number (omega arith) (omega arith)

pub returns-in-100000-to-999999 : goal.returns-in-100000-to-999999
returns-in-100000-to-999999 c = digits_six c.args.number (omega arith) (omega arith)

pub returns-in-1000000-to-9999999 : goal.returns-in-1000000-to-9999999
returns-in-1000000-to-9999999 c = digits_seven c.args.number (omega arith) (omega arith)

pub returns-in_default : goal.returns-in_default
returns-in_default c = digits_eight c.args.number (omega arith) (omega arith)
