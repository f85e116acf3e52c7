use Rattle.std.proofs.Common.{subst, sym, List, ℕ, length}
use Rattle.std.specs.Prelude.{slice_index}
use Rattle.gs_runq.specs.Linked.{Within}
use Rattle.gs_runq.proofs.Lines.{tids, within_all}
use Rattle.gs_runq.proofs.line.Line.walk.Goals as goal

pub along-requires : goal.along-requires
along-requires c = subst (λ (ns : List ℕ). Within c.self.inside.count (slice_index ns) (length ns) 0) (sym c.deref.ensures.value) (within_all c.self.inside.count c.self.inside.next.items c.self.invariant.line.within)

pub returns-clause-tids : goal.returns-clause-tids
returns-clause-tids c = tids c.self.inside.next.items c.self.inside.previous.items c.self.inside.count _ _ c.self.view_is c.self.invariant.line
