use Rattle.std.proofs.Common.{length}
use Rattle.gs_runner.proofs.log.Log.accept.Goals as goal

pub returns-clause-calls : goal.returns-clause-calls
returns-clause-calls g c =
    let h = c.args.kernel.now.history in
    c.push_other.ensures.calls h (length h) c.requires.within

pub returns-clause-within : goal.returns-clause-within
returns-clause-within g c =
    c.push_other.ensures.within (length c.args.kernel.now.history) c.requires.within
