use Rattle.std.proofs.Common.{refl, List, suc, sym, ap, subst, ◌∙◌, arith}
use Rattle.std.specs.List.{AllByRecursion}
use Rattle.gs_layout.specs.View.{look_up}
use Rattle.gs_dump.specs.declared.record.DumpRecord.{DumpRecord}
use Rattle.gs_dump.specs.Record.{IsLive}
use Rattle.gs_view.specs.Loaded.{HasRoomFor}
use Rattle.gs_agent.specs.Pages.{after_page}
use Rattle.gs_agent.specs.Picture.{parts}
use Rattle.gs_agent.proofs.Paged.{record_next}
use Rattle.gs_agent.proofs.rebuild.follow_written.Goals as goal

pub follow_record-requires-clause-place : goal.follow_record-requires-clause-place
follow_record-requires-clause-place c =
    let room = subst (λ (rs : List DumpRecord). HasRoomFor rs c.loop-thread.view) c.in-Some.ensures.steps c.loop-thread.invariant.view_room in
    room.places 0 c.in-Some.thread refl

pub loop-thread-preserved : goal.loop-thread-preserved
loop-thread-preserved c =
    let i = c.loop-thread.invariant in
    let room = subst (λ (rs : List DumpRecord). HasRoomFor rs c.loop-thread.view) c.in-Some.ensures.steps i.view_room in
    let live = subst (AllByRecursion IsLive) c.in-Some.ensures.steps i.tids in
    record {
      view_room = record {
        places = λ j r there. omega (arith, c.follow_record.ensures.places, room.places (suc j) r there);
        room = omega (arith, room.room, c.follow_record.ensures.view_room);
      };
      queue_room = λ some. c.follow_record.ensures.queue_room;
      tids = live.1;
      picture = record_next c.next.new.self c.in-Some.thread (look_up c.loop-thread.view.entries) (look_up c.follow_record.new.view.entries)
          c.loop-thread.cpus c.follow_record.new.cpus c.loop-thread.queue c.follow_record.new.queue
          (after_page c.args.records (parts (look_up c.args.view.now.entries) c.args.cpus.now c.args.queue.now))
          (ap (λ (rs : List DumpRecord). after_page rs (parts (look_up c.loop-thread.view.entries) c.loop-thread.cpus c.loop-thread.queue)) (sym c.in-Some.ensures.steps) ∙ i.picture)
          c.follow_record.ensures.known c.follow_record.ensures.cpus c.follow_record.ensures.queue;
      room = c.follow_record.ensures.room;
    }
