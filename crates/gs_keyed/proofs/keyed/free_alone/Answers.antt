use Rattle.gs_policy.specs.Plan.{nobody}
use Rattle.gs_policy.specs.Safety.{nobody_taking}
use Rattle.gs_policy.specs.Shown.{shows}
use Rattle.gs_keyed.proofs.Walks.{any_order}
use Rattle.gs_keyed.proofs.keyed.free_alone.Goals as goal

pub returns : goal.returns
returns c = λ records queue tids.
    any_order nobody c.new.result records c.args.cpus.now queue tids
    (λ others. c.new.ensures nobody records others (nobody_taking (shows records c.args.cpus.now others)) (record { by_zero = c.none.ensures.empty; by_one = c.none-2.ensures.empty }))
