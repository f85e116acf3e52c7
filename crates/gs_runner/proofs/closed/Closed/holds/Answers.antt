use Rattle.std.proofs.Common.{List, sym, ap, subst, ◌∙◌}
use Rattle.std.specs.List.{list_all}
use Rattle.std.specs.List.Sorted.{IsNonDecreasingBy}
use Rattle.gs_runner.specs.declared.call.Call.{Call}
use Rattle.gs_runner.specs.Holds.{answers_command}
use Rattle.gs_runner.proofs.closed.Closed.holds.Goals as goal

pub holds-requires-clause-answered : goal.holds-requires-clause-answered
holds-requires-clause-answered c = ap (λ (l : List Call). list_all answers_command l) c.new.ensures ∙ c.self.invariant.0

pub holds-requires-clause-order : goal.holds-requires-clause-order
holds-requires-clause-order c = subst (λ (l : List Call). IsNonDecreasingBy (λ (x : Call). x.at) l) (sym c.new.ensures) c.self.invariant.1
