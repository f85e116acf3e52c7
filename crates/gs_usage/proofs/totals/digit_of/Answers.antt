use Rattle.gs_usage.proofs.Counting.{even_digit, odd_digit}
use Rattle.gs_usage.proofs.totals.digit_of.Goals as goal

pub returns-then-times-eq1 : goal.returns-then-times-eq1
returns-then-times-eq1 c = λ i. odd_digit c.args.times c.args.set i c.if-times-eq1.true

pub returns-else-times-eq1 : goal.returns-else-times-eq1
returns-else-times-eq1 c = λ i. even_digit c.args.times c.args.set i c.if-times-eq1.false
