use Rattle.std.specs.Prelude.{Result, Ok, Err, IfOk}
use Rattle.gs_workbench.proofs.simulating.simulated.Goals as goal

both : {T E : Type 0} (P Q R : T → Type 0) (r : Result T E) → ((x : T) → P x → Q x → R x) → IfOk r P → IfOk r Q → IfOk r R
both P Q R (Ok x) join p q = join x p q
both P Q R (Err e) join p q = tt

pub returns-clause-simulated : goal.returns-clause-simulated
returns-clause-simulated g c =
    both _ _ _ c.simulate_as.result (λ s heard headed. record { workload = c.in_ok-workload.workload; says = c.in_ok-workload.ensures.says; session = s.session; heard = heard; headed = headed }) c.simulate_as.ensures.heard c.simulate_as.ensures.headed

pub returns-clause-fault : goal.returns-clause-fault
returns-clause-fault g c = c.simulate_as.ensures.fault c.args.input.now
