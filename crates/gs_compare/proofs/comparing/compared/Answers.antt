use Rattle.std.proofs.Common.{rules, ℕ, List}
use Rattle.gs_workbench.specs.Written.{IsRefusalOf}
use Rattle.gs_compare.proofs.comparing.compared.Goals as goal

pub returns-in_err-columns-clause-fault : goal.returns-in_err-columns-clause-fault
returns-in_err-columns-clause-fault g c = λ (input : List ℕ).
    let refused : IsRefusalOf g.P.NamedPolicy.naming input c.in_err-columns.field-0.0 = c.in_err-columns.ensures.fault input in
    search (rules, refused)
