use Rattle.std.proofs.Common.{take}
use Rattle.std.specs.List.{AllZip}
use Rattle.gs_compare.specs.Compared.{IsTried}
use Rattle.gs_compare.proofs.comparing.try_policies.Given as goal

abbrev pub invariant-loop-policy : goal.invariant-loop-policy
invariant-loop-policy g l = AllZip (IsTried g.P.NamedPolicy.naming g.P.Policy.chosen l.workload l.seeds) (take l.policy-index l.policies) l.columns.items
