use Rattle.std.proofs.Common.{[]}
use Rattle.gs_timeline.proofs.Sent.{grows_more, on_err, sends_grows, sends_more, sends_none, sends_same}
use Rattle.gs_timeline.proofs.ring.write_ring.Goals as goal

pub returns-in_err-write_edge-clause-stuck : goal.returns-in_err-write_edge-clause-stuck
returns-in_err-write_edge-clause-stuck g c = on_err _ (grows_more _ _ _ (sends_grows [] _ _ _ _ (sends_none _ _ _ c.begin_ring.ensures)) c.in_err-write_edge.ensures.stuck)

pub returns-in_err-end_ring-clause-stuck : goal.returns-in_err-end_ring-clause-stuck
returns-in_err-end_ring-clause-stuck g c = on_err _ (sends_grows [] _ _ _ _ (sends_more [] _ _ _ _ _ _ (sends_none _ _ _ c.begin_ring.ensures) c.in_ok-write_edge.ensures.sent))

pub returns-clause-sent : goal.returns-clause-sent
returns-clause-sent g c = sends_same [] _ _ _ _ _ (sends_more [] _ _ _ _ _ _ (sends_none _ _ _ c.begin_ring.ensures) c.in_ok-write_edge.ensures.sent) c.end_ring.ensures
