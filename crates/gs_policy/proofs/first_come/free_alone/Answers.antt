use Rattle.gs_policy.specs.Plan.{nobody}
use Rattle.gs_policy.specs.Safety.{nobody_taking}
use Rattle.gs_policy.specs.Shown.{shows}
use Rattle.gs_policy.proofs.first_come.free_alone.Goals as goal

pub returns : goal.returns
returns c = λ records queue.
    c.new.ensures nobody records queue (nobody_taking (shows records c.args.cpus.now queue)) (record { by_zero = c.none.ensures.empty; by_one = c.none-2.ensures.empty })
