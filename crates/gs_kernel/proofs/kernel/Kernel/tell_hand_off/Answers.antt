use Rattle.std.proofs.Common.{inl}
use Rattle.gs_kernel.specs.declared.command.Command.TheVariants as commands
use Rattle.gs_kernel.proofs.Refusals.{free_when}
use Rattle.gs_kernel.proofs.kernel.Kernel.tell_hand_off.Goals as goal

pub tell-requires-clause-due : goal.tell-requires-clause-due
tell-requires-clause-due g c = inl (record { command = commands.HandOff c.args.cpu; given = c.args.self.now.paged; free = c.requires.free; effect_is = c.handing_over-effect.ensures.value })

pub handing_over-effect-requires : goal.handing_over-effect-requires
handing_over-effect-requires g c =
    let k = c.args.self.now in
    (free_when k.settings k.history k.paged (commands.HandOff c.args.cpu) c.requires.free).own
