use Rattle.std.proofs.Common.{rules, ◌≡◌, ◌<◌, ◌≤◌, ◌∙◌, refl, subst, List, ℕ, length}
use Rattle.gs_core.specs.declared.event.Event.{Event}
use Rattle.gs_script.specs.Held.{Adds}
use Rattle.gs_script.specs.Plain.{lines_left}
use Rattle.gs_script.specs.Said.{said}
use Rattle.gs_script.specs.Script.{events_of}
use Rattle.gs_script.proofs.Unread.{one_read}
use Rattle.gs_script.proofs.reading.add_next.Goals as goal

pub returns-then-count-len-clause-read : goal.returns-then-count-len-clause-read
returns-then-count-len-clause-read g c =
    let old : List (Event g.row.P.Denot) = c.args.events.now.items in
    let new : List (Event g.row.P.Denot) = c.add_event.new.events.items in
    let text : List ℕ = c.in-Some.line.now in
    let left = c.add_event.new.left in
    let lines = lines_left c.args.text.now in
    let adds : Adds g.P.NamedPolicy.naming text left old new = subst (λ (es : List (Event g.row.P.Denot)). Adds g.P.NamedPolicy.naming text left es new) (c.reserve.ensures.items ∙ c.lines.invariant.same) c.in-Ok.ensures.ok in
    let more : length old < length new = search rules in
    one_read g.P.NamedPolicy.naming c.lines.next text left old new (record { number = c.lines.next; bytes = c.line_before-bytes.result }) (record { number = c.args.next.now; lines = lines }) adds more refl c.line_before-bytes.ensures
    (subst (λ o. events_of g.P.NamedPolicy.naming c.lines.next (lines_left o) ≡ events_of g.P.NamedPolicy.naming c.args.next.now lines) c.in-Some.is c.lines.invariant.events)
    (subst (λ o. said c.lines.next (lines_left o) ≡ said c.args.next.now lines) c.in-Some.is c.lines.invariant.says)
    (subst (λ o. length (lines_left o) ≤ length lines) c.in-Some.is c.lines.invariant.fewer)
