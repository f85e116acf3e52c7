use Rattle.std.proofs.Common.{map, take}
use Rattle.gs_perfetto.specs.Events.{slice_front}
use Rattle.gs_timeline.specs.Sent.{Sends}
use Rattle.gs_perfetto.proofs.trace.write_events.Given as goal

abbrev pub invariant-loop-stay : goal.invariant-loop-stay
invariant-loop-stay g l = Sends (map slice_front (take l.stay-index l.stays)) (g.W.Write.contents l.fn.writer) (g.W.Write.contents l.writer) l.fn.out.settled l.out.settled
