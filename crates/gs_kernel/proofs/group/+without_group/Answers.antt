use Rattle.std.proofs.Common.{arith}
use Rattle.gs_kernel.proofs.Counted.{count_fewer}
use Rattle.gs_kernel.proofs.group.+without_group.Goals as goal

pub returns-in-Some-clause-few : goal.returns-in-Some-clause-few
returns-in-Some-clause-few t c = omega (arith, c.without_group.ensures.few, count_fewer c.args.mask c.without.result c.in-Some.field-0-0.now.0 c.without.ensures.here c.without.ensures.others)
