use Rattle.std.proofs.Common.{[]}
use Rattle.std.proofs.lemmas.Result.{on_err_weaker, on_ok_weaker}
use Rattle.gs_timeline.proofs.Sent.{grows_more, sends_grows, sends_more, sends_none, sends_same}
use Rattle.gs_timeline.proofs.marks.write_marks.Goals as goal

pub returns-then-torn-clause-sent : goal.returns-then-torn-clause-sent
returns-then-torn-clause-sent g c =
    let ticks = sends_more [] _ _ _ _ _ _ (sends_none _ _ _ c.push_str.ensures.settled) c.in_ok-torn.ensures.sent in
    let group = sends_same [] _ _ _ _ _ ticks c.push_str-2.ensures.settled in
    on_ok_weaker c.write_tears.result (λ sent. sends_more [] _ _ _ _ _ _ group sent) c.write_tears.ensures.sent

pub returns-then-torn-clause-stuck : goal.returns-then-torn-clause-stuck
returns-then-torn-clause-stuck g c = on_err_weaker c.write_tears.result (λ more. grows_more _ _ _ (sends_grows [] _ _ _ _ c.in_ok-torn.ensures.sent) more) c.write_tears.ensures.stuck
