use Rattle.std.proofs.Common.{[]}
use Rattle.std.proofs.lemmas.Result.{on_err_weaker, on_ok_weaker}
use Rattle.gs_timeline.proofs.Sent.{grows_more, on_err, sends_grows, sends_more}
use Rattle.gs_timeline.proofs.drawing.write_decisions.Goals as goal

pub returns-in_err-write_stamped-clause-stuck : goal.returns-in_err-write_stamped-clause-stuck
returns-in_err-write_stamped-clause-stuck g c = on_err _ (grows_more _ _ _ (sends_grows [] _ _ _ _ c.loop-cpu.invariant) c.in_err-write_stamped.ensures.stuck)

pub returns-in_err-write_decided-clause-stuck : goal.returns-in_err-write_decided-clause-stuck
returns-in_err-write_decided-clause-stuck g c = on_err _ (grows_more _ _ _ (sends_grows [] _ _ _ _ (sends_more [] _ _ _ _ _ _ c.loop-cpu.invariant c.in_ok-write_stamped.ensures.sent)) c.in_err-write_decided.ensures.stuck)

pub returns-in_err-spill-clause-stuck : goal.returns-in_err-spill-clause-stuck
returns-in_err-spill-clause-stuck g c = on_err _ (grows_more _ _ _ (sends_grows [] _ _ _ _ (sends_more [] _ _ _ _ _ _ (sends_more [] _ _ _ _ _ _ c.loop-cpu.invariant c.in_ok-write_stamped.ensures.sent) c.in_ok-write_decided.ensures.sent)) c.in_err-spill.ensures.stuck)

pub loop-cpu-preserved : goal.loop-cpu-preserved
loop-cpu-preserved g c = sends_more [] _ _ _ _ _ _ (sends_more [] _ _ _ _ _ _ (sends_more [] _ _ _ _ _ _ c.loop-cpu.invariant c.in_ok-write_stamped.ensures.sent) c.in_ok-write_decided.ensures.sent) c.in_ok-spill.ensures.sent

pub returns-clause-sent : goal.returns-clause-sent
returns-clause-sent g c = on_ok_weaker c.write_groups.result (λ sent. sends_more [] _ _ _ _ _ _ c.loop-cpu.invariant sent) c.write_groups.ensures.sent

pub returns-clause-stuck : goal.returns-clause-stuck
returns-clause-stuck g c = on_err_weaker c.write_groups.result (λ more. grows_more _ _ _ (sends_grows [] _ _ _ _ c.loop-cpu.invariant) more) c.write_groups.ensures.stuck
