use Rattle.std.proofs.Common.{◌≡◌}
use Rattle.gs_simulate.specs.Heard.{head_of}
use Rattle.gs_simulate.proofs.stage.Stage.tell_pages.Given as goal

abbrev pub invariant-loop-page : goal.invariant-loop-page
invariant-loop-page g l = head_of l.self.log ≡ head_of l.fn.self.log
