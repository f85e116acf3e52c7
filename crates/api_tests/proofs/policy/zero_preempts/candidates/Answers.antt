use Rattle.gs_policy.specs.Shown.{shows}
use Rattle.api_tests.specs.ZeroPreempts.{zero_takes, zero_taking}
use Rattle.api_tests.proofs.policy.zero_preempts.candidates.Goals as goal

pub returns : goal.returns
returns c = λ queue.
    c.new.ensures zero_takes c.args.view.now.entries queue (zero_taking (shows c.args.view.now.entries c.args.cpus.now queue)) (record { by_zero = c.class_one_cpus.ensures; by_one = c.none.ensures.empty })
