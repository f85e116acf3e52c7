use Rattle.std.proofs.Common.{[]}
use Rattle.gs_timeline.proofs.Sent.{grows_more, on_err, sends_grows, sends_more, sends_same}
use Rattle.gs_timeline.proofs.ring.write_edge.Goals as goal

pub returns-in_err-write_fill-clause-stuck : goal.returns-in_err-write_fill-clause-stuck
returns-in_err-write_fill-clause-stuck g c = on_err _ (sends_grows [] _ _ _ _ c.loop-fill.invariant)

pub returns-in_err-spill-clause-stuck : goal.returns-in_err-spill-clause-stuck
returns-in_err-spill-clause-stuck g c = on_err _ (grows_more _ _ _ (sends_grows [] _ _ _ _ (sends_same [] _ _ _ _ _ c.loop-fill.invariant c.write_fill.ensures)) c.in_err-spill.ensures.stuck)

pub loop-fill-preserved : goal.loop-fill-preserved
loop-fill-preserved g c = sends_more [] _ _ _ _ _ _ (sends_same [] _ _ _ _ _ c.loop-fill.invariant c.write_fill.ensures) c.in_ok-spill.ensures.sent

pub returns-in_err-go-clause-stuck : goal.returns-in_err-go-clause-stuck
returns-in_err-go-clause-stuck g c = on_err _ (sends_grows [] _ _ _ _ c.loop-fill.invariant)

pub returns-clause-sent : goal.returns-clause-sent
returns-clause-sent g c = sends_same [] _ _ _ _ _ c.loop-fill.invariant c.go.ensures
