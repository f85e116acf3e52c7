use Rattle.std.proofs.Common.{◌≡◌, ◌⊎◌, ℕ, ◌<◌, None, length, subst}
use Rattle.gs_journal.specs.State.{state}
use Rattle.gs_kernel.specs.Kernel.{KernelOf}
use Rattle.gs_kernel.proofs.Living.{nobody_beyond}
use Rattle.gs_kernel.proofs.kernel.Kernel.created.Goals as goal

pub returns-clause-others : goal.returns-clause-others
returns-clause-others g c = λ t never.
    let k = c.self.inside in
    let beyond : (t ≡ 0) ⊎ (length k.threads.rows < t) = subst (λ (n : ℕ). (t ≡ 0) ⊎ (n < t)) c.len.ensures.value never in
    subst (λ (x : KernelOf g.row.P.Denot). state x.settings.first_tseq x.history t ≡ None) c.self.view_is (nobody_beyond k.settings k.journal.entries k.threads k.running.items k.taken k.agents k.torn t c.self.invariant.kept beyond)
