use Rattle.std.proofs.Common.{◌≡◌, ◌∙◌, ap, sym, subst, get_or, slice_set}
use Rattle.std.proofs.lemmas.List.{get_or_default}
use Rattle.gs_journal.specs.declared.entry.Entry.{Entry}
use Rattle.gs_usage.specs.Waiting.{ArePast, ThreadsOf, unseen, waiting, waiting_then}
use Rattle.gs_usage.specs.declared.row.Row.{Row}
use Rattle.gs_usage.proofs.Hearing.{IsHeard, counts_torn, heard_so, stands}
use Rattle.gs_usage.proofs.threads.Threads.hear.Goals as goal

pub returns-in-Torn-clause-counts : goal.returns-in-Torn-clause-counts
returns-in-Torn-clause-counts c = λ k.
    let ts : ThreadsOf = record { rows = c.self.inside.table.items; torn = c.self.inside.torn_before } in
    let past : ArePast c.args.place ts = subst (ArePast c.args.place) (sym c.self.view_is) c.requires.past in
    counts_torn c.args.place k ts c.none.result past ∙ ap (λ (e : Entry). waiting_then k e c.none.result (waiting c.args.self.now k)) (sym c.in-Torn.is)

pub returns : goal.returns
returns c =
    let n = c.args.place in
    let x = c.args.entry.now in
    let u = c.in-Some.tid in
    let rows = c.make_room.new.table.items in
    let ts : ThreadsOf = record { rows = c.self.inside.table.items; torn = c.self.inside.torn_before } in
    let past : ArePast n ts = subst (ArePast n) (sym c.self.view_is) c.requires.past in
    let r : Row = c.index_mut-row.result.now in
    let read : r ≡ get_or rows u unseen = c.index_mut-row.ensures.value ∙ get_or_default rows u r unseen c.in_ok-make_room.ensures.room in
    let is : IsHeard n x (record { before = c.waits_for-before.result; after = c.waits_for.result }) ts (record { rows = slice_set rows u c.hear.new.self; torn = ts.torn }) =
    heard_so ts rows n u x r c.hear.new.self c.waits_for-before.result c.waits_for.result past c.in_ok-make_room.ensures.same c.in_ok-make_room.ensures.room (stands x c.in_default.not-Torn)
    (sym c.subject.ensures ∙ c.in-Some.is) read c.hear.ensures c.waits_for-before.ensures c.waits_for.ensures in
    let told = subst (λ (o : ThreadsOf). IsHeard n x (record { before = c.waits_for-before.result; after = c.waits_for.result }) o (record { rows = slice_set rows u c.hear.new.self; torn = ts.torn })) c.self.view_is is in
    record {
      ready = told.ready;
      masks = told.masks;
      counts = told.counts;
      covers = told.covers;
      past = told.past;
    }
