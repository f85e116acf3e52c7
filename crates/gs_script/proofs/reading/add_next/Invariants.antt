use Rattle.std.proofs.Common.{◌≡◌, ◌+◌, ◌≤◌, length}
use Rattle.gs_script.specs.Plain.{lines_left}
use Rattle.gs_script.specs.Said.{said}
use Rattle.gs_script.specs.Script.{events_of}
use Rattle.gs_script.proofs.reading.add_next.Given as goal

abbrev pub invariant-lines : goal.invariant-lines
invariant-lines g l =
    record {
      events : events_of g.P.NamedPolicy.naming l.next (lines_left l.text) ≡ events_of g.P.NamedPolicy.naming l.fn.next (lines_left l.fn.text);
      says : said l.next (lines_left l.text) ≡ said l.fn.next (lines_left l.fn.text);
      few : l.next + length (lines_left l.text) ≤ l.fn.next + length (lines_left l.fn.text);
      fewer : length (lines_left l.text) ≤ length (lines_left l.fn.text);
      same : l.events.items ≡ l.fn.events.items;
    }

abbrev pub decreases-lines : goal.decreases-lines
decreases-lines g l = length (lines_left l.text)
