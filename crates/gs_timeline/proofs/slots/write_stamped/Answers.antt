use Rattle.std.proofs.Common.{[]}
use Rattle.gs_timeline.proofs.Sent.{grows_more, on_err, sends_grows, sends_more, sends_none, sends_same}
use Rattle.gs_timeline.proofs.slots.write_stamped.Goals as goal

pub returns-in_err-write_lengths-clause-stuck : goal.returns-in_err-write_lengths-clause-stuck
returns-in_err-write_lengths-clause-stuck g c = on_err _ (grows_more _ _ _ (sends_grows [] _ _ _ _ (sends_none _ _ _ c.push_str.ensures.settled)) c.in_err-write_lengths.ensures.stuck)

pub returns-in_err-push_str-2-clause-stuck : goal.returns-in_err-push_str-2-clause-stuck
returns-in_err-push_str-2-clause-stuck g c = on_err _ (sends_grows [] _ _ _ _ (sends_more [] _ _ _ _ _ _ (sends_none _ _ _ c.push_str.ensures.settled) c.in_ok-write_lengths.ensures.sent))

pub returns-clause-sent : goal.returns-clause-sent
returns-clause-sent g c = sends_same [] _ _ _ _ _ (sends_more [] _ _ _ _ _ _ (sends_none _ _ _ c.push_str.ensures.settled) c.in_ok-write_lengths.ensures.sent) c.push_str-2.ensures.settled
