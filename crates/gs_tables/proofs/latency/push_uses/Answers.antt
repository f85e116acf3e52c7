use Rattle.std.proofs.Common.{◌∙◌, ap, sym, List, ℕ, ◌++◌, append_assoc, get_or, take}
use Rattle.gs_usage.specs.Times.{unused}
use Rattle.gs_tables.specs.Latency.{headed, usage_shown, usages_shown, uses_heading}
use Rattle.gs_tables.proofs.Listing.{usages_more}
use Rattle.gs_tables.proofs.latency.push_uses.Goals as goal

pub loop-cpu-preserved : goal.loop-cpu-preserved
loop-cpu-preserved c =
    let n = c.args.notation in
    let xs = c.args.usages.now in
    let i = c.loop-cpu.cpu in
    let above : List ℕ = headed n uses_heading in
    let before : List ℕ = usages_shown n 0 (take i xs) in
    let here : List ℕ = usage_shown n i (get_or xs i unused) in
    c.in_ok-push_usage_shown.ensures
    ∙ (ap (λ (o : List ℕ). o ++ here) c.loop-cpu.invariant
    ∙ (append_assoc c.args.out.now (above ++ before) here ∙ ap (λ (o : List ℕ). c.args.out.now ++ o) (append_assoc above before here ∙ ap (λ (o : List ℕ). above ++ o) (sym (usages_more n xs i unused c.loop-cpu-test.true)))))
