use Rattle.std.proofs.Common.{◌≡◌, ◌≤◌, length, take, drop}
use Rattle.std.specs.List.{AllByRecursion, filter_map}
use Rattle.gs_dump.specs.Record.{IsLive}
use Rattle.gs_kernel.specs.Shown.{by_row, live_from}
use Rattle.gs_kernel.proofs.kernel.Kernel.written_page.Given as goal

-- the records tell of the first threads, and the rows that are left are those of the others
abbrev pub invariant-loop-tid : goal.invariant-loop-tid
invariant-loop-tid g l =
    record {
      told : l.page ≡ take (length l.page) (live_from l.self.settings l.self.history l.from);
      left : filter_map by_row l.tid-iterator ≡ drop (length l.page) (live_from l.self.settings l.self.history l.from);
      live : AllByRecursion IsLive l.page;
      few : length l.page ≤ l.max;
    }
