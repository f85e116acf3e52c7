-- A row of a text that is written at once.
use Rattle.std.specs.Prelude.{◌+◌, ◌++◌, ℕ, List, decimal, length}
use Rattle.gs_text.specs.declared.row.Row.{Row}

-- its parts one behind another
abbrev pub row_text : Row → List ℕ
row_text row = row.digit.0.now ++ decimal row.digit.1 ++ row.first.0.now ++ decimal row.first.1.now ++ row.second.0.now ++ decimal row.second.1.now ++ row.few.0.now ++ row.few.1.now ++ row.line.0.now ++ row.line.1.now ++ row.rest.0.now ++ row.rest.1.now ++ row.end.now

-- room for it, however many digits its numbers have
abbrev pub row_room : Row → ℕ
row_room row = length row.digit.0.now + 1 + length row.first.0.now + 32 + length row.second.0.now + 32 + length row.few.0.now + length row.few.1.now + length row.line.0.now + length row.line.1.now + length row.rest.0.now + length row.rest.1.now + length row.end.now
