use Rattle.std.proofs.Common.{[]}
use Rattle.gs_timeline.proofs.Sent.{grows_more, on_err, sends_grows, sends_more, sends_none, sends_same}
use Rattle.gs_timeline.proofs.foot.write_life.Goals as goal

pub returns-in_err-write_strip-clause-stuck : goal.returns-in_err-write_strip-clause-stuck
returns-in_err-write_strip-clause-stuck g c = on_err _ (grows_more _ _ _ (sends_grows [] _ _ _ _ (sends_none _ _ _ c.begin_life.ensures)) c.in_err-write_strip.ensures.stuck)

pub returns-in_err-write_strip-2-clause-stuck : goal.returns-in_err-write_strip-2-clause-stuck
returns-in_err-write_strip-2-clause-stuck g c = on_err _ (grows_more _ _ _ (sends_grows [] _ _ _ _ (sends_more [] _ _ _ _ _ _ (sends_none _ _ _ c.begin_life.ensures) c.in_ok-write_strip.ensures.sent)) c.in_err-write_strip-2.ensures.stuck)

pub returns-in_err-end_life-clause-stuck : goal.returns-in_err-end_life-clause-stuck
returns-in_err-end_life-clause-stuck g c = on_err _ (sends_grows [] _ _ _ _ (sends_more [] _ _ _ _ _ _ (sends_more [] _ _ _ _ _ _ (sends_none _ _ _ c.begin_life.ensures) c.in_ok-write_strip.ensures.sent) c.in_ok-write_strip-2.ensures.sent))

pub returns-clause-sent : goal.returns-clause-sent
returns-clause-sent g c = sends_same [] _ _ _ _ _ (sends_more [] _ _ _ _ _ _ (sends_more [] _ _ _ _ _ _ (sends_none _ _ _ c.begin_life.ensures) c.in_ok-write_strip.ensures.sent) c.in_ok-write_strip-2.ensures.sent) c.end_life.ensures
