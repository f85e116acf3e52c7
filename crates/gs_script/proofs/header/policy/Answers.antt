use Rattle.std.proofs.Common.{rules}
use Rattle.gs_script.specs.Rows.{shown}
use Rattle.gs_script.proofs.Policies.{in_other}
use Rattle.gs_script.proofs.header.policy.Goals as goal

pub returns-in_default-first : goal.returns-in_default-first
returns-in_default-first g c =
    let fault = in_other g.P.NamedPolicy.naming c.in-Some.first.now.now (shown c.in-Some.rest.now) g.met.P.NamedPolicy.some c.in_default-first.not-policy in
    search (rules, fault)
