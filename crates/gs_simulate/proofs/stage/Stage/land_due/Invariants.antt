use Rattle.std.proofs.Common.{◌≡◌}
use Rattle.gs_simulate.specs.Heard.{head_of}
use Rattle.gs_simulate.proofs.stage.Stage.land_due.Given as goal

abbrev pub invariant-loop-turn : goal.invariant-loop-turn
invariant-loop-turn g l = head_of l.self.log ≡ head_of l.fn.self.log
