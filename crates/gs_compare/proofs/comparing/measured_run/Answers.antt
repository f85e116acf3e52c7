use Rattle.gs_compare.proofs.comparing.measured_run.Goals as goal

pub returns-in-Ok-clause-ran : goal.returns-in-Ok-clause-ran
returns-in-Ok-clause-ran g c =
    let s = c.args.simulated.now in
    λ workload p headed. record { text = s.text; session = s.session; landings = s.landings; heard = c.in-Ok.ensures.heard; headed = headed; measured = c.in-Ok.ensures.measured }
