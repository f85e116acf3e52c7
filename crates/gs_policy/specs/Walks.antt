-- What is left of a plan as the waiting threads are gone through.
use Rattle.std.specs.Prelude.{List, []}
use Rattle.gs_layout.specs.View.{look_up}
use Rattle.gs_policy.specs.declared.choice.Choice.{Choice}
use Rattle.gs_policy.specs.declared.walk.Choices.TheInside.{Inside}
use Rattle.gs_policy.specs.Candidates.{planned_of}

-- the choices of the threads that come next, among the CPUs that are left
abbrev pub choices_left : Inside → List Choice
choices_left s = planned_of s.left (look_up s.view.now.entries) [] s.threads
