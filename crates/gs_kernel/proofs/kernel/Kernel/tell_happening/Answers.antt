use Rattle.std.proofs.Common.{ap, inl}
use Rattle.gs_kernel.specs.declared.effect.Effect.TheVariants.{Post}
use Rattle.gs_kernel.specs.declared.command.Command.TheVariants as commands
use Rattle.gs_kernel.proofs.kernel.Kernel.tell_happening.Goals as goal

pub tell_message-requires-clause-due : goal.tell_message-requires-clause-due
tell_message-requires-clause-due g c = inl (record { command = commands.Thread c.args.tid c.args.event; given = c.args.self.now.paged; free = c.requires.free; effect_is = ap Post c.happening-message.ensures.value })
