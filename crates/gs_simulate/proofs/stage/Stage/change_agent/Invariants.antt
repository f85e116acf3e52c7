use Rattle.std.proofs.Common.{◌≡◌}
use Rattle.gs_simulate.specs.Heard.{head_of}
use Rattle.gs_simulate.proofs.stage.Stage.change_agent.Given as goal

abbrev pub invariant-loop-place : goal.invariant-loop-place
invariant-loop-place g l = head_of l.self.log ≡ head_of l.fn.self.log
