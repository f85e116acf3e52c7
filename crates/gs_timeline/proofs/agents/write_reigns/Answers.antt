use Rattle.std.proofs.Common.{[]}
use Rattle.gs_timeline.proofs.Sent.{grows_more, on_err, sends_grows, sends_more, sends_same}
use Rattle.gs_timeline.proofs.agents.write_reigns.Goals as goal

pub returns-in_err-write_reign-clause-stuck : goal.returns-in_err-write_reign-clause-stuck
returns-in_err-write_reign-clause-stuck g c = on_err _ (sends_grows [] _ _ _ _ c.loop-reign.invariant)

pub returns-in_err-spill-clause-stuck : goal.returns-in_err-spill-clause-stuck
returns-in_err-spill-clause-stuck g c = on_err _ (grows_more _ _ _ (sends_grows [] _ _ _ _ (sends_same [] _ _ _ _ _ c.loop-reign.invariant c.write_reign.ensures)) c.in_err-spill.ensures.stuck)

pub loop-reign-preserved : goal.loop-reign-preserved
loop-reign-preserved g c = sends_more [] _ _ _ _ _ _ (sends_same [] _ _ _ _ _ c.loop-reign.invariant c.write_reign.ensures) c.in_ok-spill.ensures.sent
