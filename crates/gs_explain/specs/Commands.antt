-- Which events have the refusals of a command of the kernel.
use Rattle.std.specs.Prelude.{Option, None, Some}
use Rattle.gs_kernel.specs.declared.command.Command.{Command}
use Rattle.gs_kernel.specs.declared.command.Command.TheVariants as commands
use Rattle.gs_core.specs.declared.event.Event.{Event}
use Rattle.gs_core.specs.declared.event.Event.TheVariants as events

-- the command whose refusals an event has: its own, a leaving's of a crash, or a beginning's of a new agent
abbrev pub command_of : {A : Type 0} → Event A → Option Command
command_of (events.Kernel c) = Some c
command_of events.Crash = Some commands.Leave
command_of (events.Begin p) = Some commands.Begin
command_of _ = None
