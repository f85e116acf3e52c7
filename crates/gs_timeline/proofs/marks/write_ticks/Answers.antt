use Rattle.std.proofs.Common.{◌≡◌, ◌∙◌, [], ap}
use Rattle.gs_timeline.proofs.Sent.{grows_more, on_err, sends_grows, sends_more, sends_same}
use Rattle.gs_timeline.proofs.marks.write_ticks.Goals.{in-Posted-TimerTick+in_ok-write_tick-in-Posted-TimerTick, in-Torn}
use Rattle.gs_timeline.proofs.marks.write_ticks.Goals as goal

pub returns-in_err-spill-clause-stuck : goal.returns-in_err-spill-clause-stuck
returns-in_err-spill-clause-stuck g c = on_err _ (grows_more _ _ _ (sends_grows [] _ _ _ _ c.loop-place.invariant) c.in_err-spill.ensures.stuck)

pub loop-place-preserved : goal.loop-place-preserved
loop-place-preserved g c =
    let same : c.match-entry.out.settled ≡ c.loop-place.out.settled =
    elim c.match-entry.branch [
      | in-Posted-TimerTick+in_ok-write_tick-in-Posted-TimerTick w ↦ ap (λ t. t.settled) w.out-is ∙ w.write_tick.ensures
      | in-Torn w ↦ ap (λ t. t.settled) w.out-is
    ] in
    sends_more [] _ _ _ _ _ _ (sends_same [] _ _ _ _ _ c.loop-place.invariant same) c.in_ok-spill.ensures.sent
