use Rattle.std.proofs.Common.{[]}
use Rattle.gs_timeline.proofs.Sent.{grows_more, on_err, sends_grows, sends_more}
use Rattle.gs_timeline.proofs.groups.write_groups.Goals as goal

pub returns-in_err-write_group-clause-stuck : goal.returns-in_err-write_group-clause-stuck
returns-in_err-write_group-clause-stuck g c = on_err _ (grows_more _ _ _ (sends_grows [] _ _ _ _ c.loop-number.invariant) c.in_err-write_group.ensures.stuck)

pub returns-in_err-spill-clause-stuck : goal.returns-in_err-spill-clause-stuck
returns-in_err-spill-clause-stuck g c = on_err _ (grows_more _ _ _ (sends_grows [] _ _ _ _ (sends_more [] _ _ _ _ _ _ c.loop-number.invariant c.in_ok-write_group.ensures.sent)) c.in_err-spill.ensures.stuck)

pub loop-number-preserved : goal.loop-number-preserved
loop-number-preserved g c = sends_more [] _ _ _ _ _ _ (sends_more [] _ _ _ _ _ _ c.loop-number.invariant c.in_ok-write_group.ensures.sent) c.in_ok-spill.ensures.sent
