use Rattle.std.proofs.Common.{[]}
use Rattle.gs_timeline.proofs.Sent.{grows_more, on_err, sends_grows, sends_more, sends_same}
use Rattle.gs_timeline.proofs.slots.write_lengths.Goals as goal

pub returns-in_err-write_length-clause-stuck : goal.returns-in_err-write_length-clause-stuck
returns-in_err-write_length-clause-stuck g c = on_err _ (sends_grows [] _ _ _ _ c.loop-pending.invariant)

pub returns-in_err-spill-clause-stuck : goal.returns-in_err-spill-clause-stuck
returns-in_err-spill-clause-stuck g c = on_err _ (grows_more _ _ _ (sends_grows [] _ _ _ _ (sends_same [] _ _ _ _ _ c.loop-pending.invariant c.write_length.ensures)) c.in_err-spill.ensures.stuck)

pub loop-pending-preserved : goal.loop-pending-preserved
loop-pending-preserved g c = sends_more [] _ _ _ _ _ _ (sends_same [] _ _ _ _ _ c.loop-pending.invariant c.write_length.ensures) c.in_ok-spill.ensures.sent
