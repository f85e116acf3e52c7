use Rattle.std.proofs.Common.{rules, subst, ℕ, List}
use Rattle.gs_workbench.specs.Written.{IsRefusalOf}
use Rattle.gs_compare.specs.Compared.{IsTried}
use Rattle.gs_compare.proofs.Zipping.{zip_more}
use Rattle.gs_compare.proofs.comparing.try_policies.Goals as goal

pub loop-policy-preserved : goal.loop-policy-preserved
loop-policy-preserved g c =
    let here = c.policy-item.result in
    let tried = IsTried g.P.NamedPolicy.naming g.P.Policy.chosen c.args.workload.now c.args.seeds.now in
    zip_more tried c.args.policies.now c.loop-policy.policy-index here c.loop-policy.columns.items c.keep.new.all.items c.in_ok-column.column c.loop-policy-test.true c.in_ok-keep.ensures.kept c.loop-policy.invariant
    (subst (λ (p : g.row.P.Denot). tried p c.in_ok-column.column) c.policy-item.is c.in_ok-column.ensures.tried)

pub returns-in_err-column-clause-fault : goal.returns-in_err-column-clause-fault
returns-in_err-column-clause-fault g c = λ (input : List ℕ).
    let refused : IsRefusalOf g.P.NamedPolicy.naming input c.in_err-column.field-0.0 = c.in_err-column.ensures.fault input in
    search (rules, refused)
