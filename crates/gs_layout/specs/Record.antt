-- What a message makes of a thread's record.
use Rattle.gs_layout.specs.declared.facts.Facts.{Facts}
use Rattle.gs_layout.specs.declared.message.Change.{Change}
use Rattle.gs_layout.specs.declared.message.Change.TheVariants as changes
use Rattle.gs_layout.specs.declared.message.Message.{Message}
use Rattle.gs_layout.specs.declared.message.Message.TheVariants.{Thread, TimerTick}
use Rattle.gs_layout.specs.declared.record.Record.{Record}
use Rattle.gs_layout.specs.declared.record.Record.TheVariants.{Absent, Dead, Live}
use Rattle.std.specs.Prelude.{true, false}

-- what a change makes of a live thread's facts
abbrev pub changed : Facts → Change → Record
changed f (changes.Created g) = Live g
changed f (changes.Blocked c) = Live (record f { runnable = false })
changed f changes.Wakeup = Live (record f { runnable = true })
changed f (changes.Preempted c) = Live f
changed f (changes.Yield c) = Live f
changed f (changes.Dead c) = Dead
changed f (changes.Affinity c off m) = Live (record f { mask = m })

-- what a change makes of a thread that never was
abbrev pub begun : Change → Record
begun (changes.Created g) = Live g
begun (changes.Dead c) = Dead
begun _ = Absent

-- the record after one more message about the thread
abbrev pub after : Record → Message → Record
after r (TimerTick c) = r
after Absent (Thread t s c) = begun c
after Dead (Thread t s c) = Dead
after (Live f) (Thread t s c) = changed f c
