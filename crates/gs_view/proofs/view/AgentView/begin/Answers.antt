use Rattle.std.proofs.Common.{◌∙◌, ℕ, Option, Some, ap, sym}
use Rattle.gs_layout.specs.declared.known.Known.{Known}
use Rattle.gs_layout.specs.View.{look_up}
use Rattle.gs_view.specs.News.{ready_of}
use Rattle.gs_view.proofs.Agreed.{with_here}
use Rattle.gs_view.proofs.view.AgentView.begin.Goals as goal

pub returns-clause-ready : goal.returns-clause-ready
returns-clause-ready c = λ applied.
    let tid = c.tid-tid.result in
    let known : Known = record { facts = c.facts-facts.result; tseq = c.tseq-tseq.result } in
    c.ready.ensures c.tseq-tseq.result
    ∙ ap (λ (o : Option Known). ready_of o) (sym (c.insert.ensures.known tid ∙ with_here tid (Some known) (look_up c.reserve.new.self.entries)))
    ∙ ap (λ (t : ℕ). ready_of (look_up c.insert.new.self.entries t)) c.tid-tid.ensures
