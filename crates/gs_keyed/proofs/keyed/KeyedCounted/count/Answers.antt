use Rattle.std.proofs.Common.{◌∙◌, ap, length}
use Rattle.gs_policy.specs.Shown.{shows}
use Rattle.gs_keyed.specs.Order.{in_order}
use Rattle.gs_keyed.proofs.keyed.KeyedCounted.count.Goals as goal

pub returns : goal.returns
returns g c =
    let key = g.K.Key.key_of c.args.self.now.key in
    c.count_by_key.ensures ∙ ap length (c.free_alone.ensures c.args.view.now.entries c.args.queue.now (in_order key (shows c.args.view.now.entries c.args.cpus.now c.args.queue.now)))
