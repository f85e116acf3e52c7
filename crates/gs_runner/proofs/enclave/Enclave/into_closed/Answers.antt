use Rattle.std.proofs.Common.{◌≡◌, true, false, [], ◌∷◌, sym, subst, ap, ◌∙◌, List}
use Rattle.std.specs.List.{list_all}
use Rattle.std.specs.List.Sorted.{IsNonDecreasingBy}
use Rattle.gs_journal.specs.History.{History}
use Rattle.gs_journal.specs.JournalState.{JournalState}
use Rattle.gs_journal.specs.declared.entry.Entry.TheVariants.{Role}
use Rattle.gs_runner.specs.declared.call.Call.{Call}
use Rattle.gs_runner.specs.Calls.{IsLegalHistory}
use Rattle.gs_runner.specs.Enclaves.{EnclaveOf}
use Rattle.gs_runner.specs.Holds.{answers_command}
use Rattle.gs_runner.specs.Kept.{calls_kept}
use Rattle.gs_runner.proofs.Places.{leads_rise}
use Rattle.gs_runner.proofs.Answering.{all_answered}
use Rattle.gs_runner.proofs.enclave.Enclave.into_closed.Goals as goal

pub new-requires-clause-answered : goal.new-requires-clause-answered
new-requires-clause-answered g c =
    let k = c.self.inside.kernel in
    let list = c.self.inside.log.list in
    subst (λ (h : History). list_all answers_command (calls_kept h list.others.items list.kept.items) ≡ true) (sym c.into_journal.ensures)
    (all_answered g.L.Site.parcels k.settings (Role k.settings.first_generation 0 ∷ []) false (calls_kept k.history list.others.items list.kept.items) k.history k.paged c.self.invariant.0.kept.legal)

pub new-requires-clause-order : goal.new-requires-clause-order
new-requires-clause-order g c =
    let k = c.self.inside.kernel in
    let list = c.self.inside.log.list in
    subst (λ (h : History). IsNonDecreasingBy (λ (x : Call). x.at) (calls_kept h list.others.items list.kept.items)) (sym c.into_journal.ensures)
    (leads_rise g.L.Site.parcels k.settings (Role k.settings.first_generation 0 ∷ []) false (calls_kept k.history list.others.items list.kept.items) k.history k.paged c.self.invariant.0.kept.legal)

pub returns-clause-value : goal.returns-clause-value
returns-clause-value g c =
    let list = c.self.inside.log.list in (
      ap (λ (j : JournalState). j.entries) c.new.ensures.0 ∙ (c.into_journal.ensures ∙ ap (λ (e : EnclaveOf). e.history) c.self.view_is),
      c.new.ensures.1 ∙ (ap (λ (h : History). calls_kept h list.others.items list.kept.items) c.into_journal.ensures ∙ ap (λ (e : EnclaveOf). e.calls) c.self.view_is),
    )

pub returns-clause-legal : goal.returns-clause-legal
returns-clause-legal g c =
    let k = c.self.inside.kernel in
    let list = c.self.inside.log.list in
    let parcels = g.L.Site.parcels in
    let entries : c.new.result.journal.entries ≡ k.history = ap (λ (j : JournalState). j.entries) c.new.ensures.0 ∙ c.into_journal.ensures in
    let calls : c.new.result.calls ≡ calls_kept k.history list.others.items list.kept.items =
    c.new.ensures.1 ∙ ap (λ (h : History). calls_kept h list.others.items list.kept.items) c.into_journal.ensures in (
      k.settings,
      k.paged,
      subst (λ (cs : List Call). IsLegalHistory parcels k.settings cs c.new.result.journal.entries k.paged) (sym calls)
          (subst (λ (h : History). IsLegalHistory parcels k.settings (calls_kept k.history list.others.items list.kept.items) h k.paged) (sym entries) c.self.invariant.0.kept.legal),
    )
