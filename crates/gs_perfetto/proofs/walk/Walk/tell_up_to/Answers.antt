use Rattle.std.proofs.Common.{[]}
use Rattle.gs_timeline.proofs.Sent.{grows_more, on_err, sends_grows, sends_more, sends_same}
use Rattle.gs_perfetto.proofs.walk.Walk.tell_up_to.Goals as goal

pub returns-in_err-tell_marks-clause-stuck : goal.returns-in_err-tell_marks-clause-stuck
returns-in_err-tell_marks-clause-stuck g c =
    on_err _ (grows_more _ _ _ (sends_grows [] _ _ _ _ c.loop-place.invariant) c.in_err-tell_marks.ensures.stuck)

pub returns-in_err-tell_agents-clause-stuck : goal.returns-in_err-tell_agents-clause-stuck
returns-in_err-tell_agents-clause-stuck g c =
    let marks = sends_more [] _ _ _ _ _ _ c.loop-place.invariant c.in_ok-tell_marks.ensures.sent in
    on_err c.from_residual-in_err-tell_agents.result (grows_more _ _ _ (sends_grows [] _ _ _ _ marks) c.in_err-tell_agents.ensures.stuck)

pub returns-in_err-tell_fills-clause-stuck : goal.returns-in_err-tell_fills-clause-stuck
returns-in_err-tell_fills-clause-stuck g c =
    let marks = sends_more [] _ _ _ _ _ _ c.loop-place.invariant c.in_ok-tell_marks.ensures.sent in
    let agents = sends_more [] _ _ _ _ _ _ marks c.in_ok-tell_agents.ensures.sent in
    on_err c.from_residual-in_err-tell_fills.result (grows_more _ _ _ (sends_grows [] _ _ _ _ agents) c.in_err-tell_fills.ensures.stuck)

pub returns-in_err-tell_entry-clause-stuck : goal.returns-in_err-tell_entry-clause-stuck
returns-in_err-tell_entry-clause-stuck g c =
    let marks = sends_more [] _ _ _ _ _ _ c.loop-place.invariant c.in_ok-tell_marks.ensures.sent in
    let agents = sends_more [] _ _ _ _ _ _ marks c.in_ok-tell_agents.ensures.sent in
    let fills = sends_more [] _ _ _ _ _ _ agents c.in_ok-tell_fills.ensures.sent in
    on_err c.from_residual-in_err-tell_entry.result (sends_grows [] _ _ _ _ fills)

pub returns-in_err-spill-clause-stuck : goal.returns-in_err-spill-clause-stuck
returns-in_err-spill-clause-stuck g c =
    let marks = sends_more [] _ _ _ _ _ _ c.loop-place.invariant c.in_ok-tell_marks.ensures.sent in
    let agents = sends_more [] _ _ _ _ _ _ marks c.in_ok-tell_agents.ensures.sent in
    let fills = sends_more [] _ _ _ _ _ _ agents c.in_ok-tell_fills.ensures.sent in
    on_err c.from_residual-in_err-spill.result (grows_more _ _ _ (sends_grows [] _ _ _ _ fills) c.in_err-spill.ensures.stuck)

pub loop-place-preserved : goal.loop-place-preserved
loop-place-preserved g c =
    let marks = sends_more [] _ _ _ _ _ _ c.loop-place.invariant c.in_ok-tell_marks.ensures.sent in
    let agents = sends_more [] _ _ _ _ _ _ marks c.in_ok-tell_agents.ensures.sent in
    let fills = sends_more [] _ _ _ _ _ _ agents c.in_ok-tell_fills.ensures.sent in
    sends_more [] _ _ _ _ _ _ (sends_same [] _ _ _ _ _ fills c.tell_entry.ensures) c.in_ok-spill.ensures.sent
