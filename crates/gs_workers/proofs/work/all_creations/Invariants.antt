use Rattle.std.proofs.Common.{◌≡◌, map}
use Rattle.std.specs.List.{range_with_len}
use Rattle.gs_workers.specs.Work.{creations}
use Rattle.gs_workers.proofs.work.all_creations.Given as goal

abbrev pub invariant-loop-worker : goal.invariant-loop-worker
invariant-loop-worker l = map (λ list. list.items) l.lists.items ≡ map (creations l.work.each) (range_with_len 0 l.worker)
