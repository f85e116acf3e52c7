use Rattle.std.proofs.Common.{rules, ◌≡◌, ◌∙◌, ◌++◌, ◌∷◌, [], ap, subst}
use Rattle.std.proofs.lemmas.Option.{MatchOption-at_some}
use Rattle.gs_core.specs.declared.event.Event.{Event}
use Rattle.gs_core.specs.Machine.{planned, planning}
use Rattle.gs_script.specs.Unread.{ReadsNext, events_unread}
use Rattle.gs_trace.specs.Adding.{AddsOne}
use Rattle.gs_trace.proofs.Adding.{added_more}
use Rattle.gs_trace.proofs.running.run_into.Goals as goal

pub events-preserved : goal.events-preserved
events-preserved g c =
    let now = planning g.P.Policy.chosen c.events.machine in
    let next = planning g.P.Policy.chosen c.run_one.new.machine in
    let read = MatchOption-at_some _ (ReadsNext g.P.NamedPolicy.naming c.events.script c.next.new.self c.events.event.items c.next.new.events.items) c.in-Some.said c.in-Some.is c.in_ok-said.ensures.read in
    let only : c.next.new.events.items ≡ read.event ∷ [] = read.added ∙ ap (λ es. es ++ read.event ∷ []) c.events.invariant.one in
    let is : c.index.result.now ≡ read.event = search rules in
    let one = subst (λ (e : Event _). AddsOne g.S.Sink.has now (planned g.P.Policy.chosen e) next c.events.sink c.run_one.new.sink) is c.in_ok-run_one.ensures in
    record {
      added = added_more g.P.Policy.chosen g.S.Sink.has (planning g.P.Policy.chosen c.args.machine.now) (events_unread g.P.NamedPolicy.naming c.args.script) (events_unread g.P.NamedPolicy.naming c.events.script) (events_unread g.P.NamedPolicy.naming c.next.new.self) now next read.event c.events.sink c.run_one.new.sink c.events.invariant.added read.is one;
      one = c.clear.ensures.items;
    }
