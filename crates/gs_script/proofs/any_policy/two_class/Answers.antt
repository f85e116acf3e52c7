use Rattle.std.proofs.Common.{rules}
use Rattle.gs_script.proofs.Policies.{behind_slice}
use Rattle.gs_script.proofs.any_policy.two_class.Goals as goal

pub returns-in_default-rest : goal.returns-in_default-rest
returns-in_default-rest c =
    let fault = behind_slice c.in-Some.slice.now.now c.in-Some.rest.now c.in_ok-slice.field-0 c.in_ok-slice.ensures.exact c.in_default-rest.len_at_least in
    search (rules, fault)
