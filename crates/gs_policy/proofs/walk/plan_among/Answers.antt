use Rattle.std.proofs.Common.{rules}
use Rattle.std.proofs.lemmas.Iterator.Adapters.{items_from_extend}
use Rattle.std.proofs.lemmas.Iterator.Consumers.{YieldsList-from_first}
use Rattle.gs_policy.specs.Candidates.{plan_among}
use Rattle.gs_policy.specs.Shown.{shows}
use Rattle.gs_policy.proofs.walk.plan_among.Goals as goal

pub returns : goal.returns
returns c =
    let all = plan_among c.args.all (shows c.args.view.now.entries c.args.cpus.now c.args.queue.now) in
    let h = items_from_extend c.extend.result c.extend.ensures.ran (YieldsList-from_first (λ x. x) (λ xs. xs) all c.choose.ensures.choices) in search rules
