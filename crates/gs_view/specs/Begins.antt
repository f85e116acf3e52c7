-- Which messages need memory.
use Rattle.std.specs.Prelude.{Bool, false, not, ◌&&◌, is_some}
use Rattle.gs_layout.specs.declared.message.Message.{Message}
use Rattle.gs_layout.specs.declared.message.Message.TheVariants.{Thread, TimerTick}
use Rattle.gs_layout.specs.Message.{is_creation}
use Rattle.gs_layout.specs.View.{Look}

-- whether a message begins a record: it creates a thread of which nothing is known
abbrev pub begins : Look → Message → Bool
begins v (TimerTick c) = false
begins v (Thread t s c) = is_creation (Thread t s c) && not (is_some (v t))
