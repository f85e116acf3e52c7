use Rattle.std.proofs.Common.{◌≡◌}
use Rattle.gs_simulate.specs.Heard.{head_of}
use Rattle.gs_simulate.proofs.stage.Stage.draw_group.Given as goal

abbrev pub invariant-loop-thread : goal.invariant-loop-thread
invariant-loop-thread g l = head_of l.self.log ≡ head_of l.fn.self.log
