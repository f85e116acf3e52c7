use Rattle.std.proofs.Common.{[]}
use Rattle.gs_timeline.proofs.Sent.{grows_more, on_err, sends_grows, sends_more, sends_none, sends_same}
use Rattle.gs_timeline.proofs.groups.write_group.Goals as goal

pub returns-in_err-write_ends-clause-stuck : goal.returns-in_err-write_ends-clause-stuck
returns-in_err-write_ends-clause-stuck g c = on_err _ (grows_more _ _ _ (sends_grows [] _ _ _ _ (sends_none _ _ _ c.begin_bracket.ensures)) c.in_err-write_ends.ensures.stuck)

pub returns-in_err-write_title-clause-stuck : goal.returns-in_err-write_title-clause-stuck
returns-in_err-write_title-clause-stuck g c = on_err _ (sends_grows [] _ _ _ _ (sends_more [] _ _ _ _ _ _ (sends_none _ _ _ c.begin_bracket.ensures) c.in_ok-write_ends.ensures.sent))

pub returns-clause-sent : goal.returns-clause-sent
returns-clause-sent g c = sends_same [] _ _ _ _ _ (sends_more [] _ _ _ _ _ _ (sends_none _ _ _ c.begin_bracket.ensures) c.in_ok-write_ends.ensures.sent) c.write_title.ensures
