use Rattle.std.proofs.Common.{[]}
use Rattle.std.proofs.lemmas.Result.{on_err_weaker, on_ok_weaker}
use Rattle.gs_timeline.proofs.Sent.{grows_more, on_err, sends_grows, sends_more, sends_same}
use Rattle.gs_timeline.proofs.drawing.write_above.Goals as goal

pub returns-in_err-write_agent_row-clause-stuck : goal.returns-in_err-write_agent_row-clause-stuck
returns-in_err-write_agent_row-clause-stuck g c = on_err _ (sends_grows [] _ _ _ _ c.in_ok-write_axis.ensures.sent)

pub returns-clause-sent : goal.returns-clause-sent
returns-clause-sent g c = on_ok_weaker c.write_ring.result (λ sent. sends_more [] _ _ _ _ _ _ (sends_same [] _ _ _ _ _ c.in_ok-write_axis.ensures.sent c.write_agent_row.ensures) sent) c.write_ring.ensures.sent

pub returns-clause-stuck : goal.returns-clause-stuck
returns-clause-stuck g c = on_err_weaker c.write_ring.result (λ more. grows_more _ _ _ (sends_grows [] _ _ _ _ (sends_same [] _ _ _ _ _ c.in_ok-write_axis.ensures.sent c.write_agent_row.ensures)) more) c.write_ring.ensures.stuck
