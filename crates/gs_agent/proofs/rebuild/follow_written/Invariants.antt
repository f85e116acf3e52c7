use Rattle.std.proofs.Common.{◌≡◌, ◌<◌, ◌≤◌, length}
use Rattle.std.specs.List.{AllByRecursion}
use Rattle.gs_layout.specs.declared.message.TheConstants.{MOST_TIDS}
use Rattle.gs_layout.specs.View.{look_up}
use Rattle.gs_dump.specs.Record.{IsLive}
use Rattle.gs_view.specs.Loaded.{HasRoomFor}
use Rattle.gs_agent.specs.Held.{HasRoom}
use Rattle.gs_agent.specs.Pages.{after_page}
use Rattle.gs_agent.specs.Picture.{parts}
use Rattle.gs_agent.proofs.rebuild.follow_written.Given as goal

-- what the records that are left make of the picture is what all make of the first one
abbrev pub invariant-loop-thread : goal.invariant-loop-thread
invariant-loop-thread l =
    record {
      view_room : HasRoomFor l.thread-iterator l.view;
      queue_room : 0 < length l.thread-iterator → MOST_TIDS ≤ l.queue.room;
      tids : AllByRecursion IsLive l.thread-iterator;
      picture : after_page l.thread-iterator (parts (look_up l.view.entries) l.cpus l.queue)
          ≡ after_page l.fn.records (parts (look_up l.initial.view.entries) l.initial.cpus l.initial.queue);
      room : HasRoom (look_up l.view.entries) l.queue;
    }
