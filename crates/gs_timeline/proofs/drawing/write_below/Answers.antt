use Rattle.std.proofs.Common.{[]}
use Rattle.std.proofs.lemmas.Result.{on_err_weaker, on_ok_weaker}
use Rattle.gs_timeline.proofs.Sent.{grows_more, on_err, sends_grows, sends_more}
use Rattle.gs_timeline.proofs.drawing.write_below.Goals as goal

pub returns-in_err-write_marks-clause-stuck : goal.returns-in_err-write_marks-clause-stuck
returns-in_err-write_marks-clause-stuck g c = on_err _ (grows_more _ _ _ (sends_grows [] _ _ _ _ c.in_ok-write_agents.ensures.sent) c.in_err-write_marks.ensures.stuck)

pub returns-in_err-write_decisions-clause-stuck : goal.returns-in_err-write_decisions-clause-stuck
returns-in_err-write_decisions-clause-stuck g c = on_err _ (grows_more _ _ _ (sends_grows [] _ _ _ _ (sends_more [] _ _ _ _ _ _ c.in_ok-write_agents.ensures.sent c.in_ok-write_marks.ensures.sent)) c.in_err-write_decisions.ensures.stuck)

pub returns-clause-sent : goal.returns-clause-sent
returns-clause-sent g c = on_ok_weaker c.write_foot.result (λ sent. sends_more [] _ _ _ _ _ _ (sends_more [] _ _ _ _ _ _ (sends_more [] _ _ _ _ _ _ c.in_ok-write_agents.ensures.sent c.in_ok-write_marks.ensures.sent) c.in_ok-write_decisions.ensures.sent) sent) c.write_foot.ensures.sent

pub returns-clause-stuck : goal.returns-clause-stuck
returns-clause-stuck g c = on_err_weaker c.write_foot.result (λ more. grows_more _ _ _ (sends_grows [] _ _ _ _ (sends_more [] _ _ _ _ _ _ (sends_more [] _ _ _ _ _ _ c.in_ok-write_agents.ensures.sent c.in_ok-write_marks.ensures.sent) c.in_ok-write_decisions.ensures.sent)) more) c.write_foot.ensures.stuck
