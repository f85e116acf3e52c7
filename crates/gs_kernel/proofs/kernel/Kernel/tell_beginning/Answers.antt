use Rattle.std.proofs.Common.{None, ap, inl, ℕ}
use Rattle.gs_journal.specs.declared.entry.Entry.TheVariants.{Begin}
use Rattle.gs_kernel.specs.declared.effect.Effect.TheVariants.{Append}
use Rattle.gs_kernel.specs.declared.command.Command.TheVariants as commands
use Rattle.gs_kernel.proofs.OtherClass.{begins_when}
use Rattle.gs_kernel.proofs.Refusals.{free_when}
use Rattle.gs_kernel.proofs.kernel.Kernel.tell_beginning.Goals as goal

pub tell_alone-requires-clause-due : goal.tell_alone-requires-clause-due
tell_alone-requires-clause-due g c = inl (record { command = commands.Begin; given = c.args.self.now.paged; free = c.requires.free; effect_is = ap (λ (n : ℕ). Append None (Begin n)) c.next_generation-generation.ensures })

pub next_generation-generation-requires : goal.next_generation-generation-requires
next_generation-generation-requires g c =
    let k = c.args.self.now in
    begins_when k.history (free_when k.settings k.history k.paged commands.Begin c.requires.free).own
