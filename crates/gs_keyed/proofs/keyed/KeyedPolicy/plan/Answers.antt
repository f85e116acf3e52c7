use Rattle.std.proofs.Common.{◌∙◌}
use Rattle.std.proofs.lemmas.Result.{IfOk-weaker}
use Rattle.gs_policy.specs.Shown.{shows}
use Rattle.gs_keyed.specs.Order.{in_order}
use Rattle.gs_keyed.proofs.keyed.KeyedPolicy.plan.Goals as goal

pub returns : goal.returns
returns g c =
    let key = g.K.Key.key_of c.args.self.now.key in
    IfOk-weaker c.plan_by_key.result _ _
    (λ r is. is ∙ c.free_alone.ensures c.args.view.now.entries c.args.queue.now (in_order key (shows c.args.view.now.entries c.args.cpus.now c.args.queue.now)))
    c.plan_by_key.ensures
