use Rattle.std.proofs.Common.{[]}
use Rattle.gs_timeline.proofs.Sent.{grows_more, on_err, sends_grows, sends_more, sends_same}
use Rattle.gs_timeline.proofs.strip.Strip.write.Goals as goal

pub returns-in_err-push_two-clause-stuck : goal.returns-in_err-push_two-clause-stuck
returns-in_err-push_two-clause-stuck g c = on_err _ (sends_grows [] _ _ _ _ c.loop-length.invariant)

pub returns-in_err-spill-clause-stuck : goal.returns-in_err-spill-clause-stuck
returns-in_err-spill-clause-stuck g c = on_err _ (grows_more _ _ _ (sends_grows [] _ _ _ _ (sends_same [] _ _ _ _ _ c.loop-length.invariant c.push_two.ensures.settled)) c.in_err-spill.ensures.stuck)

pub loop-length-preserved : goal.loop-length-preserved
loop-length-preserved g c = sends_more [] _ _ _ _ _ _ (sends_same [] _ _ _ _ _ c.loop-length.invariant c.push_two.ensures.settled) c.in_ok-spill.ensures.sent
