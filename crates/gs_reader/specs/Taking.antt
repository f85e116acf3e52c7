-- What a message takes off a CPU.
use Rattle.std.specs.Prelude.{Bool, false}
use Rattle.gs_layout.specs.declared.message.Message.{Message}
use Rattle.gs_layout.specs.declared.message.Message.TheVariants.{Thread, TimerTick}
use Rattle.gs_layout.specs.Message.{takes_off_cpu}

-- whether a message takes its own thread off the CPU: a tick has none
abbrev pub takes_own_off : Message → Bool
takes_own_off (Thread t s c) = takes_off_cpu c
takes_own_off (TimerTick c) = false
