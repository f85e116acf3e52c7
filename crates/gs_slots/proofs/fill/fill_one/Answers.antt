use Rattle.std.proofs.Common.{◌∙◌}
use Rattle.gs_slots.proofs.Filled.{one_busy}
use Rattle.gs_slots.proofs.fill.fill_one.Goals as goal

pub returns-clause-busy : goal.returns-clause-busy
returns-clause-busy c =
    c.then_some.ensures ∙ one_busy c.args.fill.now c.args.bytes.now c.over.result c.stamp-stamped.result c.is_err.result c.over.ensures.bytes c.over.ensures.cpu c.stamp-stamped.ensures.exact c.is_err.ensures.value
