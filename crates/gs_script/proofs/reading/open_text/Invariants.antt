use Rattle.std.proofs.Common.{◌≡◌, ◌+◌, length}
use Rattle.gs_script.specs.Plain.{lines_left}
use Rattle.gs_script.specs.Said.{said}
use Rattle.gs_script.specs.Words.{lines_of}
use Rattle.gs_script.specs.Script.{script_from}
use Rattle.gs_script.proofs.reading.open_text.Given as goal

abbrev pub invariant-lines : goal.invariant-lines
invariant-lines g l =
    record {
      script : script_from g.P.NamedPolicy.naming l.header (lines_left l.rest) ≡ script_from g.P.NamedPolicy.naming 1 (lines_of l.fn.text);
      says : said l.header (lines_left l.rest) ≡ said 1 (lines_of l.fn.text);
      count : l.header + length (lines_left l.rest) ≡ 1 + length (lines_of l.fn.text);
    }

abbrev pub decreases-lines : goal.decreases-lines
decreases-lines g l = length (lines_left l.rest)
