use Rattle.std.proofs.Common.{ℕ, take}
use Rattle.std.specs.List.{AllZip}
use Rattle.gs_compare.specs.declared.measured.Measured.{Measured}
use Rattle.gs_compare.specs.Compared.{IsRun}
use Rattle.gs_compare.proofs.comparing.try_policy.Given as goal

abbrev pub invariant-loop-seed : goal.invariant-loop-seed
invariant-loop-seed g l = AllZip (λ (seed : ℕ) (m : Measured). IsRun g.P.NamedPolicy.naming g.P.Policy.chosen l.workload l.policy m) (take l.seed-index l.seeds) l.runs.items
