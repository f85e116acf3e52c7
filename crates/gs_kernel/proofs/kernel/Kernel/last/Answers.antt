use Rattle.gs_journal.specs.Last.{entry_lent}
use Rattle.gs_kernel.proofs.Lasts.{some_lent}
use Rattle.gs_kernel.proofs.kernel.Kernel.last.Goals as goal

pub unwrap-requires : goal.unwrap-requires
unwrap-requires g c =
    let k = c.self.inside in
    some_lent entry_lent c.last.result k.journal.entries k.agents.generation c.self.invariant.kept.agents.generation c.last.ensures
