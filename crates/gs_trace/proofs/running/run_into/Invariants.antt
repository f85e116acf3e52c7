use Rattle.std.proofs.Common.{◌≡◌, [], length}
use Rattle.gs_core.specs.Machine.{planning}
use Rattle.gs_script.specs.Unread.{events_unread}
use Rattle.gs_trace.specs.Adding.{AddedUpTo}
use Rattle.gs_trace.proofs.running.run_into.Given as goal

abbrev pub invariant-events : goal.invariant-events
invariant-events g l =
    record {
      added : AddedUpTo g.P.Policy.chosen g.S.Sink.has (planning g.P.Policy.chosen l.fn.machine) (events_unread g.P.NamedPolicy.naming l.fn.script) (events_unread g.P.NamedPolicy.naming l.script) (planning g.P.Policy.chosen l.machine) l.sink;
      one : l.event.items ≡ [];
    }

abbrev pub decreases-events : goal.decreases-events
decreases-events g l = length l.script.lines
