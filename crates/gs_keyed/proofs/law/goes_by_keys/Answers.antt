use Rattle.gs_keyed.proofs.Orders.{by_keys}
use Rattle.gs_keyed.proofs.law.goes_by_keys.Goals as goal

pub returns : goal.returns
returns c = by_keys
