use Rattle.std.proofs.Common.{inl, refl}
use Rattle.gs_kernel.specs.declared.command.Command.TheVariants as commands
use Rattle.gs_kernel.proofs.kernel.Kernel.tell_leaving.Goals as goal

pub tell_alone-requires-clause-due : goal.tell_alone-requires-clause-due
tell_alone-requires-clause-due g c = inl (record { command = commands.Leave; given = c.args.self.now.paged; free = c.requires.free; effect_is = refl })
