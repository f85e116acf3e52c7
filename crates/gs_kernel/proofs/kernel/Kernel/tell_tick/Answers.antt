use Rattle.std.proofs.Common.{ap, arith, inl, refl}
use Rattle.gs_kernel.specs.declared.command.Command.TheVariants as commands
use Rattle.gs_kernel.proofs.Refusals.{free_when, ticks_when}
use Rattle.gs_kernel.proofs.kernel.Kernel.tell_tick.Goals as goal

pub tell_message-requires-clause-due : goal.tell_message-requires-clause-due
tell_message-requires-clause-due g c = inl (record { command = commands.Tick c.args.cpu; given = c.args.self.now.paged; free = c.requires.free; effect_is = refl })

pub tell_message-requires-clause-spellable : goal.tell_message-requires-clause-spellable
tell_message-requires-clause-spellable g c =
    let k = c.args.self.now in
    omega (arith, ticks_when k.settings c.args.cpu (free_when k.settings k.history k.paged (commands.Tick c.args.cpu) c.requires.free).own, c.self.invariant.in_range.most_cpus, ap (λ v. v.settings.cpus) c.self.view_is)
