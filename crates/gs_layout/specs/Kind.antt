-- The kinds of message.
use Rattle.std.specs.Prelude.{ℕ, Bool, true, false}
use Rattle.gs_layout.specs.declared.kind.Kind.{Kind}
use Rattle.gs_layout.specs.declared.kind.Kind.TheVariants as kinds

-- the number that stands for a kind
abbrev pub kind_number : Kind → ℕ
kind_number kinds.Created = 1
kind_number kinds.Blocked = 2
kind_number kinds.Wakeup = 3
kind_number kinds.Preempted = 4
kind_number kinds.Yield = 5
kind_number kinds.Dead = 6
kind_number kinds.Affinity = 7
kind_number kinds.TimerTick = 8

-- whether a message of a kind takes its own thread off the CPU; of a new mask the Bool says whether it does
abbrev pub kind_takes_off : Kind → Bool → Bool
kind_takes_off kinds.Created off = false
kind_takes_off kinds.Blocked off = true
kind_takes_off kinds.Wakeup off = false
kind_takes_off kinds.Preempted off = true
kind_takes_off kinds.Yield off = true
kind_takes_off kinds.Dead off = true
kind_takes_off kinds.Affinity off = off
kind_takes_off kinds.TimerTick off = false
