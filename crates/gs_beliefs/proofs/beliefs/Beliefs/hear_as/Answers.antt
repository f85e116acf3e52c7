use Rattle.std.proofs.Common.{sym, ◌∙◌}
use Rattle.gs_beliefs.proofs.Believed.{hears_number}
use Rattle.gs_beliefs.proofs.beliefs.Beliefs.hear_as.Goals as goal

pub returns-else-takes_off_as : goal.returns-else-takes_off_as
returns-else-takes_off_as c =
    hears_number c.args.message.now c.args.self.now c.raise.new.self c.args.kind c.tid-else-takes_off_as.result c.tseq.result (sym c.takes_off_as.ensures ∙ c.if-takes_off_as.false) c.requires c.in_default.not-TimerTick
    c.tid-else-takes_off_as.ensures c.tseq.ensures c.raise.ensures
