-- What an agent makes of messages.
use Rattle.std.specs.Prelude.{Bool, true, false, ℕ, ◌+◌, nat_lt, nat_le, Option, None, Some, List, [], ◌∷◌, if◌then◌else◌}
use Rattle.std.specs.Map.{lookup}
use Rattle.std.specs.BTreeMap.{is_at}
use Rattle.std.specs.Ordering.{nat_cmp}
use Rattle.gs_layout.specs.declared.message.Change.TheVariants.{Created}
use Rattle.gs_layout.specs.declared.message.Message.{Message}
use Rattle.gs_layout.specs.declared.message.Message.TheVariants.{Thread, TimerTick}
use Rattle.gs_layout.specs.declared.record.Record.{Record}
use Rattle.gs_layout.specs.declared.record.Record.TheVariants.{Absent, Dead, Live}
use Rattle.gs_layout.specs.declared.known.Known.{Known}
use Rattle.gs_layout.specs.declared.known.Word.{Word}
use Rattle.gs_layout.specs.declared.known.Word.TheVariants.{Applied, Orphan, Skipped, Gap}
use Rattle.gs_layout.specs.Message.{is_about}
use Rattle.gs_layout.specs.Record.{after}

-- what is known of each thread
abbrev pub Look : Type 0
Look = ℕ → Option Known

-- what a list of records says of each thread
abbrev pub look_up : List (ℕ × Known) → Look
look_up records = λ t. lookup (is_at (nat_cmp t)) records

-- what a message is to what is known of its thread: the first that applies
abbrev pub word_at : Option Known → Message → Word
word_at o (TimerTick c) = Applied
word_at None (Thread t s (Created f)) = Applied
word_at None (Thread t s _) = Orphan
word_at (Some k) (Thread t s c) = if nat_le s k.tseq then Skipped else if nat_lt (k.tseq + 1) s then Gap else Applied

abbrev pub record_known : Option Known → Record
record_known None = Absent
record_known (Some k) = Live k.facts

-- what is known of a thread with this record and sequence number: nothing if it does not live
abbrev pub known_at : ℕ → Record → Option Known
known_at s Absent = None
known_at s Dead = None
known_at s (Live f) = Some (record { facts = f; tseq = s })

abbrev pub learnt : Option Known → Message → Option Known
learnt o (TimerTick c) = o
learnt o (Thread t s c) = known_at s (after (record_known o) (Thread t s c))

abbrev pub learn : Word → Option Known → Message → Option Known
learn Applied o m = learnt o m
learn Orphan o m = o
learn Skipped o m = o
learn Gap o m = o

-- what is known of the message's own thread after it
abbrev pub next_known : Option Known → Message → Option Known
next_known o m = learn (word_at o m) o m

-- what a message is to a view, by the first that holds: a tick applies. If nothing is known of the thread, a creation applies, and any
-- other message is an orphan. A number not above the known one is skipped, and one more than one above it is a gap. Any other message
-- applies
abbrev pub word : Look → Message → Word
word v (TimerTick c) = Applied
word v (Thread t s c) = word_at (v t) (Thread t s c)

-- the view after a message: only what applies changes it, at the message's thread
abbrev pub apply : Look → Message → Look
apply v m = λ t. if is_about t m then next_known (v t) m else v t

-- the view after messages, in order
abbrev pub catch_up : Look → List Message → Look
catch_up v [] = v
catch_up v (m ∷ ms) = catch_up (apply v m) ms

-- the words of messages, one after another
abbrev pub words : Look → List Message → List Word
words v [] = []
words v (m ∷ ms) = word v m ∷ words (apply v m) ms

abbrev pub is_gap : Word → Bool
is_gap Gap = true
is_gap _ = false

abbrev pub is_skipped : Word → Bool
is_skipped Skipped = true
is_skipped _ = false

abbrev pub is_orphan : Word → Bool
is_orphan Orphan = true
is_orphan _ = false

-- whether the next of these messages is a gap
abbrev pub gap_next : Look → List Message → Bool
gap_next v [] = false
gap_next v (m ∷ ms) = is_gap (word v m)
