use Rattle.std.proofs.Common.{◌≡◌, ◌≢◌, subst, false, true≢false, None, ap, sym, ◌∙◌}
use Rattle.gs_layout.specs.View.{look_up}
use Rattle.gs_journal.specs.History.{active, posted, torn}
use Rattle.gs_journal.specs.State.{state}
use Rattle.gs_runner.specs.Enclaves.{EnclaveOf}
use Rattle.gs_runner.proofs.Agreeing.{gave_all, none_when}
use Rattle.gs_runner.proofs.settling.settle_role.Goals as goal

pub returns-then-knows_all-clause-ok : goal.returns-then-knows_all-clause-ok
returns-then-knows_all-clause-ok g c =
    let e = c.look_beside-waiting.new.self in
    let followed = c.drain-drained.ensures.followed in
    let stopless = none_when c.drain-drained.result.stop c.in_default.not-Some in
    let gave = gave_all c.look_beside-waiting.new.taker c.drain-drained.new.taker (posted e.history) c.look_beside-waiting.result c.drain-drained.result.count c.look_beside-waiting.ensures.rest followed.0 followed.1 followed.2.count c.drain-drained.ensures.most (c.drain-drained.ensures.whole stopless) in
    let there : state c.kernel.result.now.settings.first_tseq c.kernel.result.now.history ≡ state e.settings.first_tseq e.history = λ i. state (c.kernel.ensures.value.0 i).first_tseq (c.kernel.ensures.value.1 i) in
    (gave, ap look_up (sym c.view.ensures) ∙ (c.knows_all.ensures.0 c.if-knows_all.true ∙ there))

pub returns-else-knows_all-clause-err : goal.returns-else-knows_all-clause-err
returns-else-knows_all-clause-err g c =
    let e = c.look_beside-waiting.new.self in
    let followed = c.drain-drained.ensures.followed in
    let stopless = none_when c.drain-drained.result.stop c.in_default.not-Some in
    let gave = gave_all c.look_beside-waiting.new.taker c.drain-drained.new.taker (posted e.history) c.look_beside-waiting.result c.drain-drained.result.count c.look_beside-waiting.ensures.rest followed.0 followed.1 followed.2.count c.drain-drained.ensures.most (c.drain-drained.ensures.whole stopless) in
    let there : state c.kernel.result.now.settings.first_tseq c.kernel.result.now.history ≡ state e.settings.first_tseq e.history = λ i. state (c.kernel.ensures.value.0 i).first_tseq (c.kernel.ensures.value.1 i) in
    let stands : torn e.history ≡ false = ap (λ (x : EnclaveOf). torn x.history) c.look_beside-waiting.ensures.same ∙ c.requires.stands in
    let led : active e.history ≢ None = subst (λ (x : EnclaveOf). active x.history ≢ None) (sym c.look_beside-waiting.ensures.same) c.requires.led in
    (stands, led, gave, λ knows. true≢false (sym (c.knows_all.ensures.1 (ap look_up c.view.ensures ∙ (knows ∙ sym there))) ∙ c.if-knows_all.false))
