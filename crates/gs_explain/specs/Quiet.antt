-- What is told of events that added no entry, and of which no more has to be known.
use Rattle.std.specs.Prelude.{false, ℕ, List, [], ◌++◌}
use Rattle.std.specs.Str.Lines.{lines as lines_in}
use Rattle.serde_json.specs.Data.{Data}
use Rattle.serde_json.specs.Written.{compact_text}
use Rattle.gs_lines.specs.Lines.{line, reply_lines}
use Rattle.gs_replies.specs.declared.reply.Reply.{Reply}
use Rattle.gs_replies.specs.declared.reply.Reply.TheVariants as replies
use Rattle.gs_explain.specs.Objects.{drained_why, none_why, row_data}
use Rattle.gs_explain.specs.Rows.{drained_shown, heading, none_shown}
use Rattle.gs_explain.specs.declared.quiet.Quiet.{Quiet}
use Rattle.gs_explain.specs.declared.quiet.Quiet.TheVariants as quiets

-- the reply to the event
abbrev pub quiet_reply : Quiet → Reply
quiet_reply quiets.Nothing = replies.Landed [] false
quiet_reply (quiets.Stamped cpu tid flags number) = replies.Stamped number
quiet_reply (quiets.Drained d) = replies.Drained d

-- the reply, line by line, and what explains it
abbrev pub quiet_shown : Quiet → List ℕ
quiet_shown quiets.Nothing = none_shown []
quiet_shown (quiets.Stamped cpu tid flags number) = reply_lines (replies.Stamped number)
quiet_shown (quiets.Drained d) = reply_lines (replies.Drained d) ++ drained_shown d

-- the script's line, and that behind it
abbrev pub quiet_row : ℕ × List ℕ → Quiet → List ℕ
quiet_row said q = heading said ++ quiet_shown q

-- the reasons of the reply
abbrev pub quiet_why : Quiet → List Data
quiet_why quiets.Nothing = none_why []
quiet_why (quiets.Stamped cpu tid flags number) = []
quiet_why (quiets.Drained d) = drained_why d

-- the object of the event, before which so many entries stand
abbrev pub quiet_object : Quiet → ℕ × List ℕ → ℕ → List ℕ
quiet_object q said first = line (compact_text (row_data said first first (lines_in (reply_lines (quiet_reply q))) (quiet_why q)))
