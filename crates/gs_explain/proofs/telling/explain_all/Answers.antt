use Rattle.std.proofs.Common.{rules, ◌≡◌, ◌∙◌, ◌++◌, ◌∷◌, [], ℕ, List, ap, sym, subst}
use Rattle.std.proofs.lemmas.Option.{MatchOption-at_none, MatchOption-at_some}
use Rattle.gs_core.specs.declared.event.Event.{Event}
use Rattle.gs_core.specs.Machine.{planning}
use Rattle.gs_reasons.specs.Kept.{HasHeard}
use Rattle.gs_explain.specs.Marked.{IsMarked}
use Rattle.gs_script.specs.Unread.{ReadsNext, ReadsNone, events_unread, said_line, said_unread}
use Rattle.gs_trace.specs.Noted.{Noted, noted_first}
use Rattle.gs_trace.specs.NotedLines.{noted_of}
use Rattle.gs_explain.specs.Telling.{ExplainsOne, ToldUpTo}
use Rattle.gs_explain.proofs.Lasting.{none_marked}
use Rattle.gs_explain.proofs.Told.{all_told, none_told, one_told}
use Rattle.gs_explain.proofs.telling.explain_all.Goals as goal

pub mark_last-requires-clause-marked : goal.mark_last-requires-clause-marked
mark_last-requires-clause-marked g c = none_marked c.new-last.result.places.items c.new-last.ensures

pub events-init : goal.events-init
events-init g c =
    let show = g.T.Teller.show in
    let m = planning g.P.Policy.chosen c.args.machine.now in
    let script = events_unread g.P.NamedPolicy.naming c.args.script in
    let says = said_unread c.args.script in
    let entries : c.journal.result.now.entries ≡ m.history = c.journal.ensures.entries ∙ c.kernel.ensures.history in
    let lines : noted_of c.in_ok-lines.lines ≡ noted_first c.args.header = λ i. record { lines = c.in_ok-lines.ensures.entries i; stamped = c.in_ok-lines.ensures.stamped i; page = c.in_ok-lines.ensures.page i } in
    record {
      heard = subst (HasHeard c.hear_all.new.index) entries c.in_ok-hear_all.ensures;
      marked = subst (IsMarked c.mark_last.new.last.places.items) c.transactions.ensures c.in_ok-mark_last.ensures;
      told =
          subst (λ (out : List ℕ). ToldUpTo g.P.Policy.chosen show (noted_first c.args.header) m script script says says (noted_of c.in_ok-lines.lines) m out) (sym c.requires)
          (subst (λ (n : Noted). ToldUpTo g.P.Policy.chosen show (noted_first c.args.header) m script script says says n m []) (sym lines) (none_told g.P.Policy.chosen show (noted_first c.args.header) m script says));
      one = c.new-event.ensures.items;
    }

pub events-preserved : goal.events-preserved
events-preserved g c =
    let show = g.T.Teller.show in
    let now = planning g.P.Policy.chosen c.events.machine in
    let next = planning g.P.Policy.chosen c.explain_one.new.machine in
    let line = said_line c.in-Some.said in
    let read = MatchOption-at_some (ReadsNone g.P.NamedPolicy.naming c.events.script c.events.event.items c.next.new.events.items) (ReadsNext g.P.NamedPolicy.naming c.events.script c.next.new.self c.events.event.items c.next.new.events.items) c.in-Some.said c.in-Some.is c.in_ok-said.ensures.read in
    let only : c.next.new.events.items ≡ read.event ∷ [] = read.added ∙ ap (λ es. es ++ read.event ∷ []) c.events.invariant.one in
    let is : c.index.result.now ≡ read.event = search rules in
    let one =
    subst (λ (e : Event _). ExplainsOne g.P.Policy.chosen show (noted_of c.events.lines) now line e next (noted_of c.explain_one.new.lines) c.explain_one.new.index c.explain_one.new.last.places.items (g.T.Teller.bytes c.events.out) (g.T.Teller.bytes c.explain_one.new.out)) is c.in_ok-explain_one.ensures in
    record {
      heard = one.heard;
      marked = one.marked;
      told =
          one_told g.P.Policy.chosen show (noted_first c.args.header) (planning g.P.Policy.chosen c.args.machine.now) (events_unread g.P.NamedPolicy.naming c.args.script) (events_unread g.P.NamedPolicy.naming c.events.script) (events_unread g.P.NamedPolicy.naming c.next.new.self) (said_unread c.args.script) (said_unread c.events.script) (said_unread c.next.new.self)
          (noted_of c.events.lines) now read.event line (g.T.Teller.bytes c.events.out) next (noted_of c.explain_one.new.lines) c.explain_one.new.index c.explain_one.new.last.places.items (g.T.Teller.bytes c.explain_one.new.out) c.events.invariant.told read.is read.says one;
      one = c.clear.ensures.items;
    }

pub returns-clause-told : goal.returns-clause-told
returns-clause-told g c =
    let read = MatchOption-at_none (ReadsNone g.P.NamedPolicy.naming c.events.script c.events.event.items c.next.new.events.items) (ReadsNext g.P.NamedPolicy.naming c.events.script c.next.new.self c.events.event.items c.next.new.events.items) c.in_default.is c.in_ok-said.ensures.read in
    all_told g.P.Policy.chosen g.T.Teller.show (noted_first c.args.header) (planning g.P.Policy.chosen c.args.machine.now) (events_unread g.P.NamedPolicy.naming c.args.script) (events_unread g.P.NamedPolicy.naming c.events.script) (said_unread c.args.script) (said_unread c.events.script) (noted_of c.events.lines) (planning g.P.Policy.chosen c.events.machine) (g.T.Teller.bytes c.events.out)
    c.events.invariant.told read.is read.says
