use Rattle.std.proofs.Common.{◌≡◌, [], length}
use Rattle.gs_core.specs.Machine.{planning}
use Rattle.gs_reasons.specs.Kept.{HasHeard}
use Rattle.gs_script.specs.Unread.{events_unread, said_unread}
use Rattle.gs_explain.specs.Marked.{IsMarked}
use Rattle.gs_trace.specs.Noted.{noted_first}
use Rattle.gs_trace.specs.NotedLines.{noted_of}
use Rattle.gs_explain.specs.Telling.{ToldUpTo}
use Rattle.gs_explain.proofs.telling.explain_all.Given as goal

abbrev pub invariant-events : goal.invariant-events
invariant-events g l =
    record {
      heard : HasHeard l.index l.machine.history;
      marked : IsMarked l.last.places.items l.machine.transactions;
      told : ToldUpTo g.P.Policy.chosen g.T.Teller.show (noted_first l.header) (planning g.P.Policy.chosen l.fn.machine) (events_unread g.P.NamedPolicy.naming l.fn.script) (events_unread g.P.NamedPolicy.naming l.script) (said_unread l.fn.script) (said_unread l.script) (noted_of l.lines) (planning g.P.Policy.chosen l.machine) (g.T.Teller.bytes l.out);
      one : l.event.items ≡ [];
    }

abbrev pub decreases-events : goal.decreases-events
decreases-events g l = length l.script.lines
