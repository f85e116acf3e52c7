use Rattle.std.proofs.Common.{[]}
use Rattle.gs_timeline.proofs.Sent.{grows_more, on_err, sends_grows, sends_more, sends_same}
use Rattle.gs_perfetto.proofs.walk.Walk.tell_fills.Goals as goal

pub returns-in_err-spill-clause-stuck : goal.returns-in_err-spill-clause-stuck
returns-in_err-spill-clause-stuck g c =
    on_err c.from_residual-in_err-spill.result (grows_more _ _ _ (sends_grows [] _ _ _ _ c.loop-at.invariant) c.in_err-spill.ensures.stuck)

pub loop-at-preserved : goal.loop-at-preserved
loop-at-preserved g c = sends_more [] _ _ _ _ _ _ (sends_same [] _ _ _ _ _ c.loop-at.invariant c.write_fill.ensures) c.in_ok-spill.ensures.sent
