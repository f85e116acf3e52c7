-- What is noted of a run for a picture: its marks tell of each landing of the replies, and of no other.
use Rattle.std.specs.Prelude.{◌≡◌, ℕ, List, [], ◌∷◌, map}
use Rattle.std.specs.List.{flat_map}
use Rattle.gs_kernel.specs.declared.landing.Landing.{Landing}
use Rattle.gs_replies.specs.declared.reply.Reply.{Reply}
use Rattle.gs_replies.specs.declared.reply.Reply.TheVariants as replies
use Rattle.gs_timeline.specs.declared.notes.Mark.{Mark}
use Rattle.gs_timeline.specs.declared.notes.What.{What}
use Rattle.gs_timeline.specs.declared.notes.What.TheVariants.{Landed, Late, Stamped}
use Rattle.gs_trace.specs.declared.noting.Noting.{Noting}

-- a landing: its CPU, its thread, and what it came to, from a slot or late
abbrev pub Told : Type 0
Told = ℕ × ℕ × What

-- the landing that a mark of this CPU and thread tells of, if it tells of one
abbrev pub told_if : ℕ → ℕ → What → List Told
told_if cpu tid (Stamped preempt group) = []
told_if cpu tid (Landed outcome) = (cpu, tid, Landed outcome) ∷ []
told_if cpu tid (Late number outcome) = (cpu, tid, Late number outcome) ∷ []

abbrev pub told_of : Mark → List Told
told_of m = told_if m.cpu m.tid m.what

-- the landings that marks tell of, in order
unfoldable pub told_by : List Mark → List Told
told_by ms = flat_map told_of ms

-- a landing from a slot
abbrev pub landed : Landing → Told
landed l = (l.cpu, l.tid, Landed l.outcome)

-- the landings that a reply tells of
abbrev pub told_in : Reply → List Told
told_in (replies.Landed landings torn) = map landed landings
told_in (replies.Late number l torn) = (l.cpu, l.tid, Late number l.outcome) ∷ []
told_in _ = []

-- and those that replies tell of
unfoldable pub told_in_all : List Reply → List Told
told_in_all rs = flat_map told_in rs

abbrev pub Watches : Noting → List Reply → Type 0
Watches n rs = told_by n.marks.items ≡ told_in_all rs
