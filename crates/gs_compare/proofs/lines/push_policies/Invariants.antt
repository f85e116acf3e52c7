use Rattle.std.proofs.Common.{◌≡◌, ◌++◌, take}
use Rattle.std.specs.List.{flat_map}
use Rattle.gs_compare.specs.Lines.{policy_column}
use Rattle.gs_compare.proofs.lines.push_policies.Given as goal

abbrev pub invariant-loop-policy : goal.invariant-loop-policy
invariant-loop-policy g l = l.out ≡ l.fn.out ++ flat_map (policy_column g.P.NamedPolicy.naming l.several) (take l.policy-index l.policies)
