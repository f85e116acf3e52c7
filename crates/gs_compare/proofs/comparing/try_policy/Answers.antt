use Rattle.std.proofs.Common.{rules, ℕ, List}
use Rattle.gs_workbench.specs.Written.{IsRefusalOf}
use Rattle.gs_compare.specs.declared.measured.Measured.{Measured}
use Rattle.gs_compare.specs.Compared.{IsRun}
use Rattle.gs_compare.proofs.Zipping.{zip_more}
use Rattle.gs_compare.proofs.comparing.try_policy.Goals as goal

pub loop-seed-preserved : goal.loop-seed-preserved
loop-seed-preserved g c =
    zip_more (λ (seed : ℕ) (m : Measured). IsRun g.P.NamedPolicy.naming g.P.Policy.chosen c.args.workload.now c.args.policy m) c.args.seeds.now c.loop-seed.seed-index 0 c.loop-seed.runs.items c.keep.new.all.items c.in_ok-measured.measured c.loop-seed-test.true c.in_ok-keep.ensures.kept c.loop-seed.invariant c.in_ok-measured.ensures.ran

pub returns-in_err-measured-clause-fault : goal.returns-in_err-measured-clause-fault
returns-in_err-measured-clause-fault g c = λ (input : List ℕ).
    let refused : IsRefusalOf g.P.NamedPolicy.naming input c.in_err-measured.field-0.0 = c.in_err-measured.ensures.fault input in
    search (rules, refused)
