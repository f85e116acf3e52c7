use Rattle.std.proofs.Common.{◌≡◌, length}
use Rattle.gs_script.specs.Unread.{events_unread}
use Rattle.gs_script.specs.Unread.{with_front}
use Rattle.gs_script.proofs.reading.Reading.read_all.Given as goal

abbrev pub invariant-events : goal.invariant-events
invariant-events g l = events_unread g.P.NamedPolicy.naming l.fn.self ≡ with_front l.events.items (events_unread g.P.NamedPolicy.naming l.reading)

abbrev pub decreases-events : goal.decreases-events
decreases-events g l = length l.reading.lines
