use Rattle.std.proofs.Common.{◌≤◌, length}
use Rattle.gs_agent.specs.Collected.{IsCollected}
use Rattle.gs_agent.proofs.collect.collect_those.Given as goal

abbrev pub invariant-loop-cpu : goal.invariant-loop-cpu
invariant-loop-cpu l =
    record {
      done : IsCollected l.fn.group l.fn.region l.fn.mind l.cpu l.region l.mind;
      within : l.cpu ≤ length l.fn.region;
    }
