-- What the lines that were noted say.
use Rattle.gs_trace.specs.declared.noted.Lines.{Lines}
use Rattle.gs_trace.specs.Noted.{Noted}

-- the lines that were noted
abbrev pub noted_of : Lines → Noted
noted_of l = record { lines = l.entries.items; stamped = l.stamped.items; page = l.page }
