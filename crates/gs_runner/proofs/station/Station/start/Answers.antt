use Rattle.std.proofs.Common.{[], ◌∷◌, ap, ◌∙◌}
use Rattle.gs_journal.specs.declared.entry.Entry.TheVariants.{Role}
use Rattle.gs_kernel.specs.declared.settings.Settings.{Settings}
use Rattle.gs_runner.proofs.Opening.{opens_so}
use Rattle.gs_runner.proofs.station.Station.start.Goals as goal

pub new-enclave-requires-clause-shown : goal.new-enclave-requires-clause-shown
new-enclave-requires-clause-shown g c =
    opens_so c.args.parts.config.first_generation c.deal.new.seat c.in_ok-kernel.kernel.history (c.deal.ensures.seat ∙ (c.named-board.ensures ∙ c.args.parts.shows))
    (c.in_ok-kernel.ensures.history ∙ ap (λ (s : Settings). Role s.first_generation 0 ∷ []) c.settings.ensures.value)
