use Rattle.std.proofs.Common.{◌≡◌, ◌+◌, vec_len}
use Rattle.std.specs.Prelude.{sum_by}
use Rattle.gs_runner.specs.declared.pass.TheConstants.{PASSES}
use Rattle.gs_runner.proofs.pass.deal.Given as goal

abbrev pub invariant-loop-i : goal.invariant-loop-i
invariant-loop-i g l = (l.all.parts + l._i ≡ PASSES) × (l.all.amount ≡ 0) × (vec_len l.passes ≡ l._i) × (sum_by (λ p. p.share) l.passes.items ≡ 0) × (l.seat ≡ l.initial.seat)
