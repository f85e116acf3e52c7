use Rattle.std.proofs.Common.{refl, inl}
use Rattle.gs_kernel.specs.declared.command.Command.TheVariants as commands
use Rattle.gs_kernel.proofs.OtherClass.{takes_when}
use Rattle.gs_kernel.proofs.Refusals.{free_when}
use Rattle.gs_kernel.proofs.kernel.Kernel.tell_taking.Goals as goal

pub tell_entry-requires-clause-due : goal.tell_entry-requires-clause-due
tell_entry-requires-clause-due g c = inl (record { command = commands.Take c.args.cpu; given = c.args.self.now.paged; free = c.requires.free; effect_is = refl })

pub tell_entry-requires-clause-cpu : goal.tell_entry-requires-clause-cpu
tell_entry-requires-clause-cpu g c =
    let k = c.args.self.now in
    (takes_when k.settings k.history c.args.cpu (free_when k.settings k.history k.paged (commands.Take c.args.cpu) c.requires.free).own).cpu

pub tell_entry-requires-clause-numbers : goal.tell_entry-requires-clause-numbers
tell_entry-requires-clause-numbers g c =
    let k = c.args.self.now in
    (takes_when k.settings k.history c.args.cpu (free_when k.settings k.history k.paged (commands.Take c.args.cpu) c.requires.free).own).numbers
