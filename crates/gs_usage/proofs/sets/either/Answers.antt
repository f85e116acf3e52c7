use Rattle.gs_usage.proofs.Bits.{has_either}
use Rattle.gs_usage.proofs.sets.either.Goals as goal

pub returns : goal.returns
returns c = λ i. has_either c.args.one c.args.other i
