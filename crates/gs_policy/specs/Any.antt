-- Either policy.
use Rattle.gs_policy.specs.declared.any.AnyPolicy.{AnyPolicy}
use Rattle.gs_policy.specs.declared.any.AnyPolicy.TheVariants.{FirstCome, TwoClass}
use Rattle.gs_policy.specs.Plan.{Taking, nobody, class_one_after}

-- from whom a thread may take a CPU, under either policy
abbrev pub any_takes : AnyPolicy → Taking
any_takes (FirstCome p) = nobody
any_takes (TwoClass p) = class_one_after p.slice
