use Rattle.std.proofs.Common.{◌≡◌, ◌+◌, ◌++◌, ◌∷◌, [], refl, ap, sym, ◌∙◌, arith, length, take}
use Rattle.std.proofs.lemmas.List.{take_more}
use Rattle.std.proofs.lemmas.Option.{slice_get_read}
use Rattle.gs_layout.specs.View.{look_up}
use Rattle.gs_dump.specs.declared.record.DumpRecord.{DumpRecord}
use Rattle.gs_agent.specs.Picture.{parts}
use Rattle.gs_agent.proofs.Paged.{records_more}
use Rattle.gs_agent.proofs.rebuild.follow_records.Goals as goal

pub follow_record-requires-clause-place : goal.follow_record-requires-clause-place
follow_record-requires-clause-place c =
    let i = c.loop-thread.thread-index in
    let here = c.thread-item.result in
    c.loop-thread.invariant.places i here (slice_get_read c.args.threads.now (length c.args.threads.now) i here refl c.loop-thread-test.true c.thread-item.is)

pub follow_record-requires-clause-tid : goal.follow_record-requires-clause-tid
follow_record-requires-clause-tid c =
    let i = c.loop-thread.thread-index in
    let here = c.thread-item.result in
    c.requires.tids i here (slice_get_read c.args.threads.now (length c.args.threads.now) i here refl c.loop-thread-test.true c.thread-item.is)

pub loop-thread-preserved : goal.loop-thread-preserved
loop-thread-preserved c =
    let i = c.loop-thread.thread-index in
    let all = c.args.threads.now in
    let here = c.thread-item.result in
    let more : take (i + 1) all ≡ take i all ++ here ∷ [] = take_more all i here (omega (arith, c.loop-thread-test.true))
    ∙ ap (λ (r : DumpRecord). take i all ++ r ∷ []) (sym c.thread-item.is) in
    record {
      places = λ j r there. omega (arith, c.follow_record.ensures.places, c.loop-thread.invariant.places j r there);
      view_room = omega (arith, c.loop-thread.invariant.view_room, c.follow_record.ensures.view_room);
      queue_room = λ some. c.follow_record.ensures.queue_room;
      picture = records_more (take i all) (take (i + 1) all) here (look_up c.loop-thread.view.entries) (look_up c.follow_record.new.view.entries)
          c.loop-thread.cpus c.follow_record.new.cpus c.loop-thread.queue c.follow_record.new.queue
          (parts (look_up c.args.view.now.entries) c.args.cpus.now c.args.queue.now) more c.loop-thread.invariant.picture
          c.follow_record.ensures.known c.follow_record.ensures.cpus c.follow_record.ensures.queue;
      room = c.follow_record.ensures.room;
    }
