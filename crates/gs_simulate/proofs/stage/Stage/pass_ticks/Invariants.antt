use Rattle.std.proofs.Common.{◌≡◌}
use Rattle.gs_simulate.specs.Heard.{head_of}
use Rattle.gs_simulate.proofs.stage.Stage.pass_ticks.Given as goal

abbrev pub invariant-loop-now : goal.invariant-loop-now
invariant-loop-now g l = head_of l.self.log ≡ head_of l.fn.self.log
