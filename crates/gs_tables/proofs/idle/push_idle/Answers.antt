use Rattle.std.proofs.Common.{◌≡◌, ◌∙◌, ◌++◌, sym, subst, List, ℕ}
use Rattle.std.proofs.lemmas.Result.{on_ok_weaker}
use Rattle.gs_tallies.specs.Threads.{idle}
use Rattle.gs_trace.specs.declared.form.Notation.{Notation}
use Rattle.gs_tables.specs.Latency.{account_row}
use Rattle.gs_tables.proofs.IdleRows.{whole_object}
use Rattle.gs_tables.proofs.idle.push_idle.Goals as goal

pub returns-in-Json : goal.returns-in-Json
returns-in-Json c =
    let k = c.args.class in
    let t = c.args.tid in
    let out : List ℕ = c.args.out.now in
    on_ok_weaker c.push_between.result
    (λ added. subst (λ (n : Notation). c.push_between.new.self ≡ out ++ account_row n (idle k t)) (sym c.in-Json.is) (added ∙ whole_object k t out c.front.result.now c.front.ensures))
    c.push_between.ensures.added
