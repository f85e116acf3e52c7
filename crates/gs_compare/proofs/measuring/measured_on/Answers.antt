use Rattle.std.proofs.Common.{◌≡◌, ◌∙◌, ap, subst, ℕ}
use Rattle.std.proofs.lemmas.Result.{IfOk-weaker}
use Rattle.gs_journal.specs.History.{History}
use Rattle.gs_kernel.specs.declared.settings.Settings.{Settings}
use Rattle.gs_compare.specs.Measures.{IsMeasured}
use Rattle.gs_compare.proofs.measuring.measured_on.Goals as goal

pub returns : goal.returns
returns g c =
    let h = c.args.machine.now.history in
    let cpus = c.args.machine.now.settings.cpus in
    let landings = c.args.landings.now in
    let heard : c.journal.result.now.entries ≡ h = c.journal.ensures.entries ∙ c.kernel-kernel.ensures.history in
    let counted : c.settings-cpus.result.cpus ≡ cpus = ap (λ (s : Settings). s.cpus) (c.settings-cpus.ensures.value ∙ c.kernel-kernel.ensures.settings) in
    IfOk-weaker c.measured.result (IsMeasured landings c.settings-cpus.result.cpus c.journal.result.now.entries) (IsMeasured landings cpus h)
    (λ m is. subst (λ (k : ℕ). IsMeasured landings k h m) counted (subst (λ (g : History). IsMeasured landings c.settings-cpus.result.cpus g m) heard is))
    c.measured.ensures
