-- What is shown of an event.
use Rattle.std.specs.Prelude.{true, ℕ, ◌+◌, ◌-◌, ◌==◌, nat_le, Option, None, Some, List, [], ◌∷◌, ◌++◌, codes, decimal, length, if◌then◌else◌}
use Rattle.gs_agent.specs.declared.drained.Drained.{Drained}
use Rattle.gs_agent.specs.declared.drained.Stop.{Stop}
use Rattle.gs_journal.specs.declared.entry.Entry.{Entry}
use Rattle.gs_kernel.specs.declared.landing.Landing.{Landing}
use Rattle.gs_replies.specs.declared.reply.Reply.{Reply}
use Rattle.gs_replies.specs.declared.reply.Reply.TheVariants as replies
use Rattle.gs_lines.specs.Lines.{late_text, line, reply_lines, torn_line}
use Rattle.gs_sentences.specs.Reason.{Reason}
use Rattle.gs_sentences.specs.Reason as reasons
use Rattle.gs_explain.specs.Moment.{Moment}
use Rattle.gs_explain.specs.Landings.{after_landing, because, group_fault, landings_shown, why_landed}
use Rattle.gs_explain.specs.Refusals.{why_refused}

-- a reason that is only there if its number is not 0
abbrev pub unless_none : (ℕ → Reason) → ℕ → Option Reason
unless_none reason n = if n == 0 then None else Some (reason n)

abbrev pub stopped : Option Stop → Option Reason
stopped None = None
stopped (Some s) = Some (reasons.Stopped s)

-- what was special about the messages of a drain
abbrev pub drained_shown : Drained → List ℕ
drained_shown d = because (unless_none reasons.Skipped d.skipped) ++ because (unless_none reasons.Orphans d.orphans) ++ because (stopped d.stop)

-- a late landing
abbrev pub late_shown : Moment → ℕ → ℕ → Landing → List ℕ
late_shown x first n l = line (late_text n l) ++ because (why_landed x None true (after_landing l.outcome x.history first) l)

-- a reply that is of no landing, and what explains it
abbrev pub plain_shown : Moment → Reply → List ℕ
plain_shown x (replies.Refused f) = reply_lines (replies.Refused f) ++ because (Some (reasons.Refused (why_refused x f)))
plain_shown x replies.Torn = reply_lines replies.Torn ++ because (Some (reasons.Torn x.overflow))
plain_shown x (replies.Drained d) = reply_lines (replies.Drained d) ++ drained_shown d
plain_shown x r = reply_lines r

-- that no transaction landed
abbrev pub none_shown : List Landing → List ℕ
none_shown [] = line (codes "  no slot of the mask is stamped")
none_shown (l ∷ ls) = []

-- a reply, line by line, and what explains it. There were so many entries before the event
abbrev pub reply_shown : Moment → ℕ → Reply → List ℕ
reply_shown x first (replies.Landed ls torn) = none_shown ls ++ landings_shown x (group_fault x ls) true first ls ++ torn_line torn
reply_shown x first (replies.Late n l torn) = late_shown x first n l ++ torn_line torn
reply_shown x first r = plain_shown x r

-- the entries that an event added, by how many there were before it and are behind it
abbrev pub added : ℕ → ℕ → List ℕ
added first end =
    if nat_le end first then [] else (if end == first + 1 then line (codes "  entry " ++ decimal first) else line (codes "  entries " ++ decimal first ++ codes " to " ++ decimal (end - 1)))

-- the script's line with its number
abbrev pub heading : ℕ × List ℕ → List ℕ
heading said = line (codes "line " ++ decimal said.0 ++ codes ": " ++ said.1)

-- the script's line, the reply with its reasons, and the entries that were added
abbrev pub row : ℕ × List ℕ → Moment → ℕ → Reply → List ℕ
row said x first r = heading said ++ reply_shown x first r ++ added first (length x.history)

-- the row of a command that was done, by the last entry and by how many there are then
abbrev pub done_row : ℕ × List ℕ → ℕ → ℕ → Entry → List ℕ
done_row said first end e = heading said ++ reply_lines (replies.Done e) ++ added first end
