use Rattle.std.proofs.Common.{◌≡◌, ◌≤◌, ◌<◌, ◌+◌, ℕ, Some, length, slice_get, take}
use Rattle.gs_layout.specs.View.{look_up}
use Rattle.gs_dump.specs.declared.record.DumpRecord.{DumpRecord}
use Rattle.gs_view.specs.Loaded.{loaded}
use Rattle.gs_view.proofs.view.AgentView.load.Given as goal

abbrev pub invariant-loop-thread : goal.invariant-loop-thread
invariant-loop-thread l =
    record {
      places : (i : ℕ) (r : DumpRecord) → slice_get l.page.records i ≡ Some r → r.tid < l.self.tids;
      room : length l.page.records ≤ l.self.room + l.thread-index;
      known : look_up l.self.entries ≡ loaded (take l.thread-index l.page.records) (look_up l.initial.self.entries);
    }
