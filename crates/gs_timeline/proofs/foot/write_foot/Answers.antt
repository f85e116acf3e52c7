use Rattle.std.proofs.Common.{[]}
use Rattle.gs_timeline.proofs.Sent.{grows_more, on_err, sends_grows, sends_more, sends_none}
use Rattle.gs_timeline.proofs.foot.write_foot.Goals as goal

pub loop-line-init : goal.loop-line-init
loop-line-init g c = sends_none _ _ _ c.write_classes.ensures

pub returns-in_err-write_line-clause-stuck : goal.returns-in_err-write_line-clause-stuck
returns-in_err-write_line-clause-stuck g c = on_err _ (grows_more _ _ _ (sends_grows [] _ _ _ _ c.loop-line.invariant) c.in_err-write_line.ensures.stuck)

pub returns-in_err-spill-clause-stuck : goal.returns-in_err-spill-clause-stuck
returns-in_err-spill-clause-stuck g c = on_err _ (grows_more _ _ _ (sends_grows [] _ _ _ _ (sends_more [] _ _ _ _ _ _ c.loop-line.invariant c.in_ok-write_line.ensures.sent)) c.in_err-spill.ensures.stuck)

pub loop-line-preserved : goal.loop-line-preserved
loop-line-preserved g c = sends_more [] _ _ _ _ _ _ (sends_more [] _ _ _ _ _ _ c.loop-line.invariant c.in_ok-write_line.ensures.sent) c.in_ok-spill.ensures.sent
