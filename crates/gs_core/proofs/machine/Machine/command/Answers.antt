use Rattle.std.proofs.Common.{subst}
use Rattle.gs_core.specs.Machine.{StateOf, planning}
use Rattle.gs_core.specs.Safe.{Safe, IsFaithful}
use Rattle.gs_core.specs.Held.{machine_now}
use Rattle.gs_core.proofs.Keeping.{kept_faithful, kept_safe}
use Rattle.gs_core.proofs.machine.Machine.command.Goals as goal

pub returns-clause-safe : goal.returns-clause-safe
returns-clause-safe g c =
    let i = c.self.invariant in subst (λ (x : StateOf _). Safe (planning g.P.Policy.chosen x)) c.self.view_is (kept_safe (machine_now g.P.Policy.chosen c.self.inside) i.kept)

pub returns-clause-faithful : goal.returns-clause-faithful
returns-clause-faithful g c =
    let i = c.self.invariant in subst (λ (x : StateOf _). IsFaithful (planning g.P.Policy.chosen x)) c.self.view_is (kept_faithful (machine_now g.P.Policy.chosen c.self.inside) i.kept)
