-- What an event speaks of.
use Rattle.std.specs.Prelude.{ℕ}
use Rattle.gs_kernel.specs.declared.command.Command.{Command}
use Rattle.gs_kernel.specs.declared.command.Command.TheVariants as commands
use Rattle.gs_kernel.specs.declared.thread_event.ThreadEvent.TheVariants.{Affinity}
use Rattle.gs_core.specs.declared.event.Event.{Event}
use Rattle.gs_core.specs.declared.event.Event.TheVariants as events

-- the thread that an event names, 0 if it names none
abbrev pub tid_of : Event (Unit {0}) → ℕ
tid_of (events.Kernel (commands.Thread t e)) = t
tid_of (events.Stamp c t f) = t
tid_of _ = 0

-- the CPU that it names, 0 if it names none
abbrev pub cpu_of_command : Command → ℕ
cpu_of_command (commands.Take c) = c
cpu_of_command (commands.Give c) = c
cpu_of_command (commands.Tick c) = c
cpu_of_command (commands.HandOff c) = c
cpu_of_command (commands.Activate c) = c
cpu_of_command _ = 0

abbrev pub cpu_of : Event (Unit {0}) → ℕ
cpu_of (events.Kernel c) = cpu_of_command c
cpu_of (events.Stamp c t f) = c
cpu_of _ = 0

-- the mask that it names, the empty one if it names none
abbrev pub mask_of_command : Command → ℕ
mask_of_command (commands.Create f) = f.mask
mask_of_command (commands.Thread t (Affinity m)) = m
mask_of_command _ = 0

abbrev pub mask_of : Event (Unit {0}) → ℕ
mask_of (events.Kernel c) = mask_of_command c
mask_of (events.Commit m) = m
mask_of _ = 0
