use Rattle.std.proofs.Common.{ap, sym, ◌∙◌}
use Rattle.gs_slots.specs.Filling.{fault_of}
use Rattle.gs_slots.proofs.Filled.{high_within, low_within, parted, whole_busy, whole_filled}
use Rattle.gs_slots.proofs.fill.fill_halves.Goals as goal

pub fill_both-busy-requires-clause-below : goal.fill_both-busy-requires-clause-below
fill_both-busy-requires-clause-below g c =
    low_within c.args.region.now c.split-low.result.0.now c.split-low.result.1.now c.lend-rest.result.first c.min-at.result c.args.fills.now c.split_at.result.0.now c.from_cpu-above.result.now
    (parted c.args.region.now c.split-low.result.0.now c.split-low.result.1.now c.lend-rest.result.first c.min-at.result c.args.fills.now c.split_at.result.0.now c.from_cpu-above.result.now c.requires.cpus
    (sym c.lend-rest.ensures.slots ∙ c.split-low.ensures.whole) c.lend-rest.ensures.first c.split-low.ensures.below c.from_cpu-above.ensures c.split_at.ensures.front)

pub fill_both-busy-requires-clause-above : goal.fill_both-busy-requires-clause-above
fill_both-busy-requires-clause-above g c =
    high_within c.args.region.now c.split-low.result.0.now c.split-low.result.1.now c.lend-rest.result.first c.min-at.result c.args.fills.now c.split_at.result.0.now c.from_cpu-above.result.now
    (parted c.args.region.now c.split-low.result.0.now c.split-low.result.1.now c.lend-rest.result.first c.min-at.result c.args.fills.now c.split_at.result.0.now c.from_cpu-above.result.now c.requires.cpus
    (sym c.lend-rest.ensures.slots ∙ c.split-low.ensures.whole) c.lend-rest.ensures.first c.split-low.ensures.below c.from_cpu-above.ensures c.split_at.ensures.front)

pub returns-clause-slots : goal.returns-clause-slots
returns-clause-slots g c =
    whole_filled c.args.region.now c.split-low.result.0.now c.split-low.result.1.now c.fill_both-busy.new.low c.fill_both-busy.new.high c.lend-rest.result.first c.min-at.result c.args.fills.now c.split_at.result.0.now c.from_cpu-above.result.now
    (parted c.args.region.now c.split-low.result.0.now c.split-low.result.1.now c.lend-rest.result.first c.min-at.result c.args.fills.now c.split_at.result.0.now c.from_cpu-above.result.now c.requires.cpus
    (sym c.lend-rest.ensures.slots ∙ c.split-low.ensures.whole) c.lend-rest.ensures.first c.split-low.ensures.below c.from_cpu-above.ensures c.split_at.ensures.front)
    c.fill_both-busy.ensures.low c.fill_both-busy.ensures.high

pub returns-clause-answer : goal.returns-clause-answer
returns-clause-answer g c =
    c.answer_of.ensures ∙ ap fault_of (c.or.ensures ∙ whole_busy c.args.region.now c.split-low.result.0.now c.split-low.result.1.now c.lend-rest.result.first c.min-at.result c.args.fills.now c.split_at.result.0.now c.from_cpu-above.result.now c.fill_both-busy.result.0 c.fill_both-busy.result.1
    (parted c.args.region.now c.split-low.result.0.now c.split-low.result.1.now c.lend-rest.result.first c.min-at.result c.args.fills.now c.split_at.result.0.now c.from_cpu-above.result.now c.requires.cpus
    (sym c.lend-rest.ensures.slots ∙ c.split-low.ensures.whole) c.lend-rest.ensures.first c.split-low.ensures.below c.from_cpu-above.ensures c.split_at.ensures.front)
    c.fill_both-busy.ensures.busy c.fill_both-busy.ensures.later)
