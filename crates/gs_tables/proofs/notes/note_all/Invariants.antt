use Rattle.std.proofs.Common.{◌≡◌, [], length}
use Rattle.gs_core.specs.Machine.{planning}
use Rattle.gs_script.specs.Unread.{events_unread, said_unread}
use Rattle.gs_trace.specs.Noted.{noted_first}
use Rattle.gs_trace.specs.NotedLines.{noted_of}
use Rattle.gs_tables.specs.Notes.{NotedUpTo}
use Rattle.gs_tables.proofs.notes.note_all.Given as goal

abbrev pub invariant-events : goal.invariant-events
invariant-events g l =
    record {
      noted : NotedUpTo g.P.Policy.chosen (noted_first l.header) (planning g.P.Policy.chosen l.fn.machine) (events_unread g.P.NamedPolicy.naming l.fn.script) (events_unread g.P.NamedPolicy.naming l.script) (said_unread l.fn.script) (said_unread l.script) (noted_of l.notes.lines) l.notes.landings.items (planning g.P.Policy.chosen l.machine);
      one : l.event.items ≡ [];
    }

abbrev pub decreases-events : goal.decreases-events
decreases-events g l = length l.script.lines
