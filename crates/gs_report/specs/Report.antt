-- The report of a run: a JSON text and a newline.
use Rattle.std.specs.Prelude.{◌≡◌, ℕ, List, codes, map, Some}
use Rattle.std.specs.Str.Lines.{lines as lines_in}
use Rattle.circular_buffer.specs.Buffer.{keep_last}
use Rattle.serde_json.specs.Data.{Data, boolean, number, unsigned, string, array, object, member, no_members}
use Rattle.serde_json.specs.Read.{read}
use Rattle.serde_json.specs.View.{items_of}
use Rattle.serde_json.specs.Written.{compact_text}
use Rattle.gs_replies.specs.declared.reply.Reply.{Reply}
use Rattle.gs_lines.specs.Lines.{line, lines}
use Rattle.gs_report.specs.Counts.{counts_of}
use Rattle.gs_report.specs.declared.counts.Counts.{Counts}
use Rattle.gs_report.specs.declared.report.Report.{Report}

-- the last lines of a text, without their newlines: all of them if there are fewer
abbrev pub last_lines : ℕ → List ℕ → List (List ℕ)
last_lines last text = keep_last last (lines_in text)

abbrev pub count : ℕ → Data
count n = number (unsigned n)

-- what is counted and the last lines, as a JSON value
abbrev pub report_data : Counts → List (List ℕ) → Data
report_data counts texts =
    object (
    member (codes "events") (count counts.events) (
    member (codes "last") (array (items_of (map string texts))) (
    member (codes "placed") (count counts.placed) (
    member (codes "refused") (count counts.refused) (
    member (codes "torn") (boolean counts.torn) (
    member (codes "unplaced") (count counts.unplaced) no_members))))))

-- what is reported of replies and of the last of their lines
abbrev pub value_of : ℕ → List Reply → Data
value_of last rs = report_data (counts_of rs) (last_lines last (lines rs))

-- the report of replies: its value as compact JSON, and a newline
abbrev pub report_of : ℕ → List Reply → List ℕ
report_of last rs = line (compact_text (value_of last rs))

-- the line is a JSON text that reads as the value, and a newline
abbrev pub ReadsAs : List ℕ → Data → Type 0
ReadsAs report value = (text : List ℕ) × (report ≡ line text) × (read text ≡ Some value)

-- a report has taken in these replies: it has what is counted of them, and their lines
pub record ReportsOn (report : Report) (rs : List Reply) : Type 0 where
  pub counted : report.counts ≡ counts_of rs
  pub written : report.text ≡ lines rs
