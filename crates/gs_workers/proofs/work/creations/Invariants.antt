use Rattle.std.proofs.Common.{◌≡◌, map}
use Rattle.std.specs.List.{range_with_len}
use Rattle.gs_workers.specs.Work.{creation}
use Rattle.gs_workers.proofs.work.creations.Given as goal

abbrev pub invariant-loop-turn : goal.invariant-loop-turn
invariant-loop-turn l = l.list.items ≡ map (creation l.worker) (range_with_len 0 l.turn)
