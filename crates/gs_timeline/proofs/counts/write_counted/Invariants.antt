use Rattle.std.proofs.Common.{◌∷◌, ◌++◌, codes, flat_map, get_or}
use Rattle.std.specs.List.{range_with_len}
use Rattle.gs_layout.specs.Outcome.{outcome_numbered}
use Rattle.gs_timeline.specs.Counts.{any_came, sums}
use Rattle.gs_timeline.specs.Pieces.{Adds}
use Rattle.gs_timeline.proofs.counts.write_counted.Given as goal

abbrev pub invariant-loop-number-2 : goal.invariant-loop-number-2
invariant-loop-number-2 l = Adds ((sums l.counts.stamped l.counts.placed l.counts.failed ++ codes "</text>\n") ∷ flat_map (λ n. any_came (outcome_numbered n) (get_or l.counts.outcomes.items n 0)) (range_with_len 0 l.number)) l.fn.out.settled l.out.settled
