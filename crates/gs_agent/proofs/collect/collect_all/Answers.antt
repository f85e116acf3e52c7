use Rattle.std.proofs.Common.{◌∙◌, List, true, ℕ, ap}
use Rattle.gs_slots.specs.Reading.{by_cpu}
use Rattle.gs_agent.specs.Mind.{picture_of, thinks}
use Rattle.gs_agent.specs.Picture.{after_slots}
use Rattle.gs_agent.specs.Collected.{left_if, told_if}
use Rattle.gs_agent.proofs.Collecting.{both_left, both_told, busy_covers, busy_within, still_covers, still_within}
use Rattle.gs_agent.proofs.collect.collect_all.Goals as goal

pub collect_those-requires-clause-covers : goal.collect_those-requires-clause-covers
collect_those-requires-clause-covers c =
    still_covers c.args.region.now c.collect_group.new.region c.busy-busy.result (c.collect_group.ensures.region ∙ ap (by_cpu (left_if true) 0) c.busy-busy.ensures.same) (busy_covers c.args.region.now c.busy-busy.result c.busy-busy.ensures.busy)

pub collect_those-requires-clause-within : goal.collect_those-requires-clause-within
collect_those-requires-clause-within c =
    still_within c.args.region.now c.collect_group.new.region c.busy-busy.result (c.collect_group.ensures.region ∙ ap (by_cpu (left_if true) 0) c.busy-busy.ensures.same) (busy_within c.args.region.now c.busy-busy.result c.busy-busy.ensures.busy)

pub returns-clause-region : goal.returns-clause-region
returns-clause-region c = both_left c.args.region.now c.collect_group.new.region c.collect_those.new.region (c.collect_group.ensures.region ∙ ap (by_cpu (left_if true) 0) c.busy-busy.ensures.same) c.collect_those.ensures.region

pub returns-clause-mind : goal.returns-clause-mind
returns-clause-mind c =
    let region : List (List ℕ) = c.args.region.now in
    both_told region c.collect_group.new.region c.args.mind.now c.collect_group.new.mind c.collect_those.new.mind (c.collect_group.ensures.region ∙ ap (by_cpu (left_if true) 0) c.busy-busy.ensures.same)
    (c.collect_group.ensures.mind ∙ ap (λ (xs : List (List ℕ)). thinks c.args.mind.now (after_slots 0 (by_cpu (told_if true) 0 xs) (picture_of c.args.mind.now))) c.busy-busy.ensures.same) c.collect_those.ensures.mind
