use Rattle.std.proofs.Common.{◌≡◌, ◌+◌, ◌<◌, ◌≤◌, ℕ, Some, length, slice_get, take}
use Rattle.gs_layout.specs.declared.message.TheConstants.{MOST_TIDS}
use Rattle.gs_layout.specs.View.{look_up}
use Rattle.gs_dump.specs.declared.record.DumpRecord.{DumpRecord}
use Rattle.gs_agent.specs.Held.{HasRoom}
use Rattle.gs_agent.specs.Pages.{after_page}
use Rattle.gs_agent.specs.Picture.{parts}
use Rattle.gs_agent.proofs.rebuild.follow_records.Given as goal

abbrev pub invariant-loop-thread : goal.invariant-loop-thread
invariant-loop-thread l =
    record {
      places : (i : ℕ) (r : DumpRecord) → slice_get l.threads i ≡ Some r → r.tid < l.view.tids;
      view_room : length l.threads ≤ l.view.room + l.thread-index;
      queue_room : 0 < length l.threads → MOST_TIDS ≤ l.queue.room;
      picture : parts (look_up l.view.entries) l.cpus l.queue
          ≡ after_page (take l.thread-index l.threads) (parts (look_up l.initial.view.entries) l.initial.cpus l.initial.queue);
      room : HasRoom (look_up l.view.entries) l.queue;
    }
