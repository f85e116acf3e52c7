-- The lines of a script, as text.
use Rattle.std.specs.Prelude.{Bool, true, false, ℕ, List, [], ◌++◌, codes, decimal}
use Rattle.gs_layout.specs.declared.facts.Facts.{Facts}
use Rattle.gs_layout.specs.declared.facts.Class.{Class}
use Rattle.gs_layout.specs.declared.facts.Class.TheVariants.{Zero, One}
use Rattle.gs_kernel.specs.declared.command.Command.{Command}
use Rattle.gs_kernel.specs.declared.command.Command.TheVariants as commands
use Rattle.gs_kernel.specs.declared.thread_event.ThreadEvent.{ThreadEvent}
use Rattle.gs_kernel.specs.declared.thread_event.ThreadEvent.TheVariants as happens
use Rattle.gs_slots.specs.declared.flags.Flags.{Flags}
use Rattle.gs_script.specs.Naming.{Naming}
use Rattle.gs_core.specs.declared.event.Event.{Event}
use Rattle.gs_core.specs.declared.event.Event.TheVariants as events
use Rattle.gs_simulate.specs.declared.line.Line.{Line}
use Rattle.gs_simulate.specs.declared.line.Line.TheVariants as written

-- a number behind a word
abbrev pub numbered : List ℕ → ℕ → List ℕ
numbered word n = word ++ decimal n

abbrev pub header_line : {A : Type 0} → Naming A → ℕ → ℕ → A → List ℕ
header_line naming cpus ring policy = numbered (codes "cpus ") cpus ++ numbered (codes " ring ") ring ++ codes " policy " ++ naming.words policy

-- a class, and whether the thread may run
abbrev pub words_of_class : Class → Bool → List ℕ
words_of_class Zero true = codes " 0 r "
words_of_class Zero false = codes " 0 b "
words_of_class One true = codes " 1 r "
words_of_class One false = codes " 1 b "

abbrev pub class_words : Facts → List ℕ
class_words f = words_of_class f.class f.runnable

abbrev pub create_line : Facts → List ℕ
create_line f = numbered (codes "create ") f.mask ++ class_words f ++ f.name

abbrev pub happening_line : ℕ → ThreadEvent → List ℕ
happening_line t happens.Block = numbered (codes "block ") t
happening_line t happens.Wake = numbered (codes "wake ") t
happening_line t happens.Yield = numbered (codes "yield ") t
happening_line t happens.Die = numbered (codes "die ") t
happening_line t (happens.Affinity mask) = numbered (codes "affinity ") t ++ numbered (codes " ") mask

abbrev pub command_line : Command → List ℕ
command_line (commands.Create facts) = create_line facts
command_line (commands.Thread t event) = happening_line t event
command_line (commands.Take cpu) = numbered (codes "take ") cpu
command_line (commands.Give cpu) = numbered (codes "give ") cpu
command_line (commands.Tick cpu) = numbered (codes "tick ") cpu
command_line (commands.HandOff cpu) = numbered (codes "handoff ") cpu
command_line commands.Leave = codes "leave"
command_line commands.Begin = codes "begin"
command_line (commands.Activate cpu) = numbered (codes "activate ") cpu

-- the word behind a stamp: whether a thread makes way, and whether it is one of a group
abbrev pub word_of_flags : Bool → Bool → List ℕ
word_of_flags false false = []
word_of_flags true false = codes " p"
word_of_flags false true = codes " g"
word_of_flags true true = codes " pg"

abbrev pub flags_word : Flags → List ℕ
flags_word f = word_of_flags f.preempt f.group

abbrev pub stamp_line : ℕ → ℕ → Flags → List ℕ
stamp_line cpu t flags = numbered (codes "stamp ") cpu ++ numbered (codes " ") t ++ flags_word flags

-- the line that says an event
abbrev pub event_line : {A : Type 0} → Naming A → Event A → List ℕ
event_line naming (events.Kernel command) = command_line command
event_line naming events.Crash = codes "crash"
event_line naming (events.Begin policy) = codes "begin " ++ naming.words policy
event_line naming (events.Page max) = numbered (codes "page ") max
event_line naming (events.Drain max) = numbered (codes "drain ") max
event_line naming (events.Stamp cpu t flags) = stamp_line cpu t flags
event_line naming events.Decide = codes "decide"
event_line naming (events.Commit mask) = numbered (codes "commit ") mask
event_line naming (events.Late number) = numbered (codes "late ") number
event_line naming events.View = codes "view"
event_line naming events.State = codes "state"
event_line naming events.Unread = codes "unread"

-- a line that is written, without its newline
abbrev pub line_text : {A : Type 0} → Naming A → Line A → List ℕ
line_text naming (written.Header cpus ring policy) = header_line naming cpus ring policy
line_text naming (written.Tick now) = numbered (codes "# tick ") now
line_text naming (written.Missed cpus) = numbered (codes "# the ring is full, and so many timers do not tick: ") cpus
line_text naming (written.Event event) = event_line naming event
