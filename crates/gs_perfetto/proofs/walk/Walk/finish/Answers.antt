use Rattle.std.proofs.Common.{[]}
use Rattle.gs_timeline.proofs.Sent.{grows_more, on_err, sends_grows, sends_more, sends_same}
use Rattle.gs_perfetto.proofs.walk.Walk.finish.Goals as goal

pub returns-in_err-tell_agents-clause-stuck : goal.returns-in_err-tell_agents-clause-stuck
returns-in_err-tell_agents-clause-stuck g c =
    on_err c.from_residual-in_err-tell_agents.result (grows_more _ _ _ (sends_grows [] _ _ _ _ c.in_ok-tell_marks.ensures.sent) c.in_err-tell_agents.ensures.stuck)

pub returns-in_err-tell_fills-clause-stuck : goal.returns-in_err-tell_fills-clause-stuck
returns-in_err-tell_fills-clause-stuck g c =
    let agents = sends_more [] _ _ _ _ _ _ c.in_ok-tell_marks.ensures.sent c.in_ok-tell_agents.ensures.sent in
    on_err c.from_residual-in_err-tell_fills.result (grows_more _ _ _ (sends_grows [] _ _ _ _ agents) c.in_err-tell_fills.ensures.stuck)

pub returns-in_err-end_all-clause-stuck : goal.returns-in_err-end_all-clause-stuck
returns-in_err-end_all-clause-stuck g c =
    let agents = sends_more [] _ _ _ _ _ _ c.in_ok-tell_marks.ensures.sent c.in_ok-tell_agents.ensures.sent in
    let fills = sends_more [] _ _ _ _ _ _ agents c.in_ok-tell_fills.ensures.sent in
    on_err c.from_residual-in_err-end_all.result (sends_grows [] _ _ _ _ fills)

pub returns-clause-sent : goal.returns-clause-sent
returns-clause-sent g c =
    let agents = sends_more [] _ _ _ _ _ _ c.in_ok-tell_marks.ensures.sent c.in_ok-tell_agents.ensures.sent in
    let fills = sends_more [] _ _ _ _ _ _ agents c.in_ok-tell_fills.ensures.sent in
    sends_same [] _ _ _ _ _ fills c.end_all.ensures
