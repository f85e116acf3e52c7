-- What is shown of an event, as a JSON object.
use Rattle.std.specs.Prelude.{Bool, true, ℕ, ◌-◌, Option, None, Some, List, [], ◌∷◌, ◌++◌, ◌&&◌, not, codes, length, map}
use Rattle.std.specs.Str.Lines.{lines as lines_in}
use Rattle.serde_json.specs.Data.{Data, array, member, no_members, null, number, object, string, unsigned}
use Rattle.serde_json.specs.View.{items_of}
use Rattle.serde_json.specs.Written.{compact_text}
use Rattle.gs_layout.specs.declared.refusal.Refusal.{Refusal}
use Rattle.gs_layout.specs.declared.refusal.Refusal.TheVariants as refusals
use Rattle.gs_agent.specs.declared.drained.Drained.{Drained}
use Rattle.gs_agent.specs.declared.drained.Stop.TheVariants as stops
use Rattle.gs_journal.specs.declared.entry.Entry.{Entry}
use Rattle.gs_kernel.specs.declared.landing.Landing.{Landing}
use Rattle.gs_replies.specs.declared.reply.Reply.{Reply}
use Rattle.gs_replies.specs.declared.reply.Reply.TheVariants as replies
use Rattle.gs_lines.specs.Lines.{line, outcome_text, reply_lines}
use Rattle.gs_reasons.specs.declared.group.GroupFault.{GroupFault}
use Rattle.gs_sentences.specs.Told.{Cause}
use Rattle.gs_sentences.specs.Reason.{Reason}
use Rattle.gs_sentences.specs.Reason as reasons
use Rattle.gs_sentences.specs.Reasons.{reason_text}
use Rattle.gs_explain.specs.Moment.{Moment}
use Rattle.gs_explain.specs.Landings.{after_landing, group_fault, is_gone, why_landed}
use Rattle.gs_explain.specs.Refusals.{why_refused}
use Rattle.gs_explain.specs.Rows.{stopped, unless_none}

-- the name of a refusal
unfoldable pub refusal_word : Refusal → List ℕ
refusal_word refusals.NoThread = codes "NoThread"
refusal_word refusals.NotRunning = codes "NotRunning"
refusal_word refusals.NotBlocked = codes "NotBlocked"
refusal_word refusals.EmptyMask = codes "EmptyMask"
refusal_word refusals.BadCpu = codes "BadCpu"
refusal_word refusals.AgentThere = codes "AgentThere"
refusal_word refusals.CpuTaken = codes "CpuTaken"
refusal_word refusals.NotTaken = codes "NotTaken"
refusal_word refusals.NotActive = codes "NotActive"
refusal_word refusals.StillAttached = codes "StillAttached"
refusal_word refusals.NotAttaching = codes "NotAttaching"
refusal_word refusals.SeqSpent = codes "SeqSpent"
refusal_word refusals.GenSpent = codes "GenSpent"
refusal_word refusals.TidsSpent = codes "TidsSpent"
refusal_word refusals.HistoryFull = codes "HistoryFull"
refusal_word refusals.SlotOpen = codes "SlotOpen"
refusal_word refusals.NoSuchTransaction = codes "NoSuchTransaction"
refusal_word refusals.Gone = codes "Gone"
refusal_word refusals.OutOfMemory = codes "OutOfMemory"

-- a reason in a word: the outcome, the refusal, or what else it is
abbrev pub reason_word : Reason → List ℕ
reason_word (reasons.Landed x) = outcome_text x.landing.outcome
reason_word (reasons.Refused x) = refusal_word x.refusal
reason_word (reasons.Torn o) = codes "torn"
reason_word (reasons.Skipped n) = codes "skipped"
reason_word (reasons.Orphans n) = codes "orphans"
reason_word (reasons.Stopped stops.Gap) = codes "gap"
reason_word (reasons.Stopped stops.Memory) = codes "memory"

-- the last entry that made it so, if one did
abbrev pub reason_cause : Reason → Option Cause
reason_cause (reasons.Landed x) = x.cause
reason_cause (reasons.Refused x) = x.cause
reason_cause _ = None

abbrev pub count : ℕ → Data
count n = number (unsigned n)

-- a number, or null for none
abbrev pub count_or_null : Option ℕ → Data
count_or_null None = null
count_or_null (Some n) = count n

-- a reason: where it points, its word, and its sentence
abbrev pub why_data : Option ℕ → Option ℕ → List ℕ → List ℕ → Data
why_data entry at word text =
    object (
    member (codes "entry") (count_or_null entry) (
    member (codes "line") (count_or_null at) (
    member (codes "reason") (string word) (
    member (codes "text") (string text) no_members))))

abbrev pub place_of_cause : Option Cause → Option ℕ
place_of_cause None = None
place_of_cause (Some c) = Some c.place

abbrev pub line_of_cause : Option Cause → Option ℕ
line_of_cause None = None
line_of_cause (Some c) = Some c.line

abbrev pub reason_data : Reason → Data
reason_data r = why_data (place_of_cause (reason_cause r)) (line_of_cause (reason_cause r)) (reason_word r) (reason_text r)

-- if there is one
abbrev pub listed : Option Reason → List Data
listed None = []
listed (Some r) = reason_data r ∷ []

-- why landings were not placed. There were so many entries before the first of them, and the enclave stood or not
abbrev pub landings_why : Moment → Option GroupFault → Bool → ℕ → List Landing → List Data
landings_why x fault stood n [] = []
landings_why x fault stood n (l ∷ ls) =
    listed (why_landed x fault stood (after_landing l.outcome x.history n) l) ++ landings_why x fault (stood && not (is_gone l.outcome)) (after_landing l.outcome x.history n) ls

-- that no transaction landed
abbrev pub none_why : List Landing → List Data
none_why [] = why_data None None (codes "nothing") (codes "no slot of the mask is stamped") ∷ []
none_why (l ∷ ls) = []

-- what was special about the messages of a drain
abbrev pub drained_why : Drained → List Data
drained_why d = listed (unless_none reasons.Skipped d.skipped) ++ listed (unless_none reasons.Orphans d.orphans) ++ listed (stopped d.stop)

-- the reasons of a reply that is of no landing
abbrev pub plain_whys : Moment → Reply → List Data
plain_whys x (replies.Refused f) = reason_data (reasons.Refused (why_refused x f)) ∷ []
plain_whys x replies.Torn = reason_data (reasons.Torn x.overflow) ∷ []
plain_whys x (replies.Drained d) = drained_why d
plain_whys x _ = []

-- the reasons that the rows of text have, in the same order
abbrev pub whys : Moment → ℕ → Reply → List Data
whys x first (replies.Landed ls torn) = none_why ls ++ landings_why x (group_fault x ls) true first ls
whys x first (replies.Late n l torn) = listed (why_landed x None true (after_landing l.outcome x.history first) l)
whys x first r = plain_whys x r

-- how many entries an event added, and the place of the first of them
abbrev pub entries_data : ℕ → ℕ → Data
entries_data first end = object (member (codes "count") (count (end - first)) (member (codes "first") (count first) no_members))

-- an event: the entries that it added, its line and that line's text, the lines of its reply, and the reasons
abbrev pub row_data : ℕ × List ℕ → ℕ → ℕ → List (List ℕ) → List Data → Data
row_data said first end texts why =
    object (
    member (codes "entries") (entries_data first end) (
    member (codes "line") (count said.0) (
    member (codes "replies") (array (items_of (map string texts))) (
    member (codes "text") (string said.1) (
    member (codes "why") (array (items_of why)) no_members)))))

-- the object in a line of its own
abbrev pub object_row : ℕ × List ℕ → Moment → ℕ → Reply → List ℕ
object_row said x first r = line (compact_text (row_data said first (length x.history) (lines_in (reply_lines r)) (whys x first r)))

-- the object of a command that was done, by the last entry and by how many there are then
abbrev pub done_object : ℕ × List ℕ → ℕ → ℕ → Entry → List ℕ
done_object said first end e = line (compact_text (row_data said first end (lines_in (reply_lines (replies.Done e))) []))
