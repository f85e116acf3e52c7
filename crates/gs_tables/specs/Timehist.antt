-- A table with a line for each turn.
use Rattle.std.specs.Prelude.{ℕ, Option, None, Some, List, ◌++◌, codes, decimal, slice_get, unwrap_or}
use Rattle.std.specs.List.{flat_map}
use Rattle.serde_json.specs.Data.{Data, member, no_members, object, string}
use Rattle.serde_json.specs.Written.{compact_text}
use Rattle.gs_layout.specs.declared.facts.Class.{Class}
use Rattle.gs_layout.specs.declared.facts.Class.TheVariants.{Zero, One}
use Rattle.gs_lines.specs.Lines.{line}
use Rattle.gs_timeline.specs.Endings.{ending_text}
use Rattle.gs_trace.specs.declared.form.Notation.{Notation}
use Rattle.gs_trace.specs.declared.form.Notation.TheVariants as notations
use Rattle.gs_turns.specs.Turns.{ran, waited}
use Rattle.gs_turns.specs.declared.turn.Turn.{Turn}
use Rattle.gs_lines.specs.Columns.{class_word, column}
use Rattle.gs_tables.specs.Numbers.{class_data, count}

-- the line that added an entry, or 0 if none is noted
abbrev pub line_of : List ℕ → ℕ → ℕ
line_of lines n = unwrap_or (slice_get lines n) 0

-- the names of the columns: the entry that placed the thread and the line that added it, the CPU, the thread and its class. Then come how long it waited and
-- how long it ran, each in entries and in ticks of the CPU, and why the stay ended
unfoldable pub heading : List ℕ
heading =
    line (
    column 8 (codes "entry") ++ column 7 (codes "line") ++ column 4 (codes "cpu") ++ column 6 (codes "tid") ++ column 5 (codes "class")
    ++ column 8 (codes "waited") ++ column 6 (codes "ticks") ++ column 8 (codes "ran") ++ column 6 (codes "ticks") ++ codes "  " ++ codes "ended")

-- the line of a turn, where these lines added the entries
abbrev pub row_of : List ℕ → Turn → List ℕ
row_of lines t =
    line (
    column 8 (decimal t.stay.from) ++ column 7 (decimal (line_of lines t.stay.from)) ++ column 4 (decimal t.stay.cpu) ++ column 6 (decimal t.stay.tid) ++ column 5 (class_word t.class)
    ++ column 8 (decimal (waited t)) ++ column 6 (decimal t.waited_ticks) ++ column 8 (decimal (ran t)) ++ column 6 (decimal t.ran_ticks) ++ codes "  " ++ ending_text t.ending)

-- a time as JSON: in entries and in ticks
abbrev pub times_data : ℕ → ℕ → Data
times_data entries ticks = object (member (codes "entries") (count entries) (member (codes "ticks") (count ticks) no_members))

-- a turn as JSON, where this line added the entry that began it
abbrev pub turn_data_at : ℕ → Turn → Data
turn_data_at at t =
    object (
    member (codes "class") (class_data t.class) (
    member (codes "cpu") (count t.stay.cpu) (
    member (codes "ended") (string (ending_text t.ending)) (
    member (codes "entry") (count t.stay.from) (
    member (codes "line") (count at) (
    member (codes "ran") (times_data (ran t) t.ran_ticks) (
    member (codes "tid") (count t.stay.tid) (
    member (codes "waited") (times_data (waited t) t.waited_ticks) no_members))))))))

-- and as a line
abbrev pub object_of : List ℕ → Turn → List ℕ
object_of lines t = line (compact_text (turn_data_at (line_of lines t.stay.from) t))

-- the lines of turns
abbrev pub rows : (Turn → List ℕ) → List Turn → List ℕ
rows show turns = flat_map show turns

-- the table of turns: lines of columns below their names, or an object for each
abbrev pub table_of : Notation → List ℕ → List Turn → List ℕ
table_of notations.Lines lines turns = heading ++ rows (row_of lines) turns
table_of notations.Json lines turns = rows (object_of lines) turns

-- a class as it stands in an object
abbrev pub class_json : Option Class → List ℕ
class_json None = codes "null"
class_json (Some Zero) = codes "0"
class_json (Some One) = codes "1"

-- a time in an object as it is put together, behind words
abbrev pub times_pieces : List ℕ → ℕ → ℕ → List ℕ
times_pieces words entries ticks = words ++ decimal entries ++ codes ",\"ticks\":" ++ decimal ticks ++ codes "}"

-- the line of an object as it is put together: class, CPU and why it ended; the entry that began it and the line; the times and the thread
abbrev pub head_pieces : Turn → List ℕ
head_pieces t = codes "{\"class\":" ++ class_json t.class ++ codes ",\"cpu\":" ++ decimal t.stay.cpu ++ codes ",\"ended\":\"" ++ ending_text t.ending

abbrev pub place_pieces : ℕ → Turn → List ℕ
place_pieces at t = codes "\",\"entry\":" ++ decimal t.stay.from ++ codes ",\"line\":" ++ decimal at

abbrev pub rest_pieces : Turn → List ℕ
rest_pieces t =
    times_pieces (codes ",\"ran\":{\"entries\":") (ran t) t.ran_ticks ++ codes ",\"tid\":" ++ decimal t.stay.tid ++ times_pieces (codes ",\"waited\":{\"entries\":") (waited t) t.waited_ticks ++ codes "}\n"

abbrev pub turn_pieces : ℕ → Turn → List ℕ
turn_pieces at t = head_pieces t ++ place_pieces at t ++ rest_pieces t
