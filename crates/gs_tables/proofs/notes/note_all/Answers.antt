use Rattle.std.proofs.Common.{rules, ◌≡◌, ◌∙◌, ◌++◌, ◌∷◌, [], List, ap, sym, subst}
use Rattle.std.proofs.lemmas.Option.{MatchOption-at_none, MatchOption-at_some}
use Rattle.gs_kernel.specs.declared.landing.Landing.{Landing}
use Rattle.gs_core.specs.declared.event.Event.{Event}
use Rattle.gs_core.specs.Machine.{planning}
use Rattle.gs_script.specs.Unread.{ReadsNext, ReadsNone, events_unread, said_line, said_unread}
use Rattle.gs_trace.specs.Noted.{Noted, noted_first}
use Rattle.gs_trace.specs.NotedLines.{noted_of}
use Rattle.gs_tables.specs.Notes.{NotedUpTo, NotesOne}
use Rattle.gs_tables.proofs.Noting.{all_noted, none_noted, one_noted}
use Rattle.gs_tables.proofs.notes.note_all.Goals as goal

pub events-init : goal.events-init
events-init g c =
    let m = planning g.P.Policy.chosen c.args.machine.now in
    let script = events_unread g.P.NamedPolicy.naming c.args.script in
    let says = said_unread c.args.script in
    let lines : noted_of c.in_ok-new.field-0 ≡ noted_first c.args.header = λ i. record { lines = c.in_ok-new.ensures.entries i; stamped = c.in_ok-new.ensures.stamped i; page = c.in_ok-new.ensures.page i } in
    record {
      noted =
          subst (λ (ls : List Landing). NotedUpTo g.P.Policy.chosen (noted_first c.args.header) m script script says says (noted_of c.in_ok-new.field-0) ls m) (sym c.new-2.ensures.items)
          (subst (λ (n : Noted). NotedUpTo g.P.Policy.chosen (noted_first c.args.header) m script script says says n [] m) (sym lines) (none_noted g.P.Policy.chosen (noted_first c.args.header) m script says));
      one = c.new-event.ensures.items;
    }

pub events-preserved : goal.events-preserved
events-preserved g c =
    let now = planning g.P.Policy.chosen c.events.machine in
    let next = planning g.P.Policy.chosen c.note_one.new.machine in
    let line = said_line c.in-Some.said in
    let read = MatchOption-at_some (ReadsNone g.P.NamedPolicy.naming c.events.script c.events.event.items c.next.new.events.items) (ReadsNext g.P.NamedPolicy.naming c.events.script c.next.new.self c.events.event.items c.next.new.events.items) c.in-Some.said c.in-Some.is c.in_ok-said.ensures.read in
    let only : c.next.new.events.items ≡ read.event ∷ [] = read.added ∙ ap (λ es. es ++ read.event ∷ []) c.events.invariant.one in
    let is : c.index.result.now ≡ read.event = search rules in
    let one =
    subst (λ (e : Event _). NotesOne g.P.Policy.chosen (noted_of c.events.notes.lines) c.events.notes.landings.items now line.0 e next (noted_of c.note_one.new.notes.lines) c.note_one.new.notes.landings.items) is c.in_ok-note_one.ensures in
    record {
      noted =
          one_noted g.P.Policy.chosen (noted_first c.args.header) (planning g.P.Policy.chosen c.args.machine.now) (events_unread g.P.NamedPolicy.naming c.args.script) (events_unread g.P.NamedPolicy.naming c.events.script) (events_unread g.P.NamedPolicy.naming c.next.new.self) (said_unread c.args.script) (said_unread c.events.script) (said_unread c.next.new.self)
          (noted_of c.events.notes.lines) c.events.notes.landings.items now read.event line next (noted_of c.note_one.new.notes.lines) c.note_one.new.notes.landings.items c.events.invariant.noted read.is read.says one;
      one = c.clear.ensures.items;
    }

pub returns-clause-noted : goal.returns-clause-noted
returns-clause-noted g c =
    let read = MatchOption-at_none (ReadsNone g.P.NamedPolicy.naming c.events.script c.events.event.items c.next.new.events.items) (ReadsNext g.P.NamedPolicy.naming c.events.script c.next.new.self c.events.event.items c.next.new.events.items) c.in_default.is c.in_ok-said.ensures.read in
    all_noted g.P.Policy.chosen (noted_first c.args.header) (planning g.P.Policy.chosen c.args.machine.now) (events_unread g.P.NamedPolicy.naming c.args.script) (events_unread g.P.NamedPolicy.naming c.events.script) (said_unread c.args.script) (said_unread c.events.script) (noted_of c.events.notes.lines) c.events.notes.landings.items (planning g.P.Policy.chosen c.events.machine)
    c.events.invariant.noted read.is read.says
