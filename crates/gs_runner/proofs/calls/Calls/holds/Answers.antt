use Rattle.std.proofs.Common.{List, sym, subst}
use Rattle.std.specs.List.Sorted.{IsNonDecreasingBy}
use Rattle.gs_runner.specs.declared.call.Call.{Call}
use Rattle.gs_runner.proofs.Places.{kept_rise}
use Rattle.gs_runner.proofs.calls.Calls.holds.Goals as goal

pub count_before-before-requires : goal.count_before-before-requires
count_before-before-requires c = kept_rise c.self.inside.journal.now.entries c.self.inside.others.now c.self.inside.kept.now (subst (λ (l : List Call). IsNonDecreasingBy (λ (x : Call). x.at) l) (sym c.self.view_is) c.requires.order)

pub stands_behind-requires-clause-order : goal.stands_behind-requires-clause-order
stands_behind-requires-clause-order c = kept_rise c.self.inside.journal.now.entries c.self.inside.others.now c.self.inside.kept.now (subst (λ (l : List Call). IsNonDecreasingBy (λ (x : Call). x.at) l) (sym c.self.view_is) c.requires.order)
