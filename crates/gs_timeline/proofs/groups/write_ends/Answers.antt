use Rattle.std.proofs.Common.{[]}
use Rattle.gs_timeline.proofs.Sent.{grows_more, on_err, sends_grows, sends_more, sends_same}
use Rattle.gs_timeline.proofs.groups.write_ends.Goals as goal

pub returns-in_err-write_end-clause-stuck : goal.returns-in_err-write_end-clause-stuck
returns-in_err-write_end-clause-stuck g c = on_err _ (sends_grows [] _ _ _ _ c.loop-place.invariant)

pub returns-in_err-spill-clause-stuck : goal.returns-in_err-spill-clause-stuck
returns-in_err-spill-clause-stuck g c = on_err _ (grows_more _ _ _ (sends_grows [] _ _ _ _ (sends_same [] _ _ _ _ _ c.loop-place.invariant c.write_end.ensures)) c.in_err-spill.ensures.stuck)

pub loop-place-preserved : goal.loop-place-preserved
loop-place-preserved g c = sends_more [] _ _ _ _ _ _ (sends_same [] _ _ _ _ _ c.loop-place.invariant c.write_end.ensures) c.in_ok-spill.ensures.sent
