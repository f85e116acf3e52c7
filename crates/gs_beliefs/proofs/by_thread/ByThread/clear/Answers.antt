use Rattle.std.proofs.Common.{ℕ, Option, None, length, replicate, ap, ◌∙◌, arith}
use Rattle.gs_beliefs.proofs.Index.{vacant_all}
use Rattle.gs_beliefs.proofs.by_thread.ByThread.clear.Goals as goal

pub returns : goal.returns
returns c =
    vacant_all c.loop-cpu.self (λ d lt. c.loop-cpu.invariant.vacant d (omega (arith, lt, c.loop-cpu-test.false, c.len-cpu-end.ensures, c.loop-cpu.invariant.count, c.loop-cpu.auto.cpu-end, ap length c.self.view_is)))
    ∙ ap (λ (n : ℕ). replicate {A = Option ℕ} n None) c.loop-cpu.invariant.count
