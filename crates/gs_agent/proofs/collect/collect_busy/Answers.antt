use Rattle.std.proofs.Common.{◌≡◌, ◌<◌, List, ℕ, Some, subst, sym}
use Rattle.gs_status.specs.Masks.{has, least}
use Rattle.gs_slots.proofs.Laws.{goes_up}
use Rattle.gs_agent.proofs.Collecting.{collected_length, collected_one, walk_begins, walk_comes, walk_ends, walk_more}
use Rattle.gs_agent.proofs.collect.collect_busy.Goals as goal

pub walk-init : goal.walk-init
walk-init c = walk_begins c.args.group c.args.region.now c.args.mind.now c.args.busy c.requires.covers c.requires.within

pub collect_one-requires : goal.collect_one-requires
collect_one-requires c =
    let old : List (List ℕ) = c.args.region.now in
    let k : ℕ = c.in-Some.cpu in
    let came = walk_comes c.args.group old c.args.mind.now c.walk.left c.walk.region c.walk.mind k c.walk.invariant c.in-Some.ensures.within c.in-Some.ensures.is_in (sym c.in-Some.ensures.least) in
    subst (λ (n : ℕ). k < n) (sym (collected_length c.args.group old c.args.mind.now k c.walk.region c.walk.mind came.0)) came.1

pub walk-smaller : goal.walk-smaller
walk-smaller c = goes_up c.walk.left c.without-left.result c.in-Some.cpu (sym c.in-Some.ensures.least) c.in-Some.ensures.within c.without-left.ensures.here c.without-left.ensures.others

pub walk-preserved : goal.walk-preserved
walk-preserved c =
    let old : List (List ℕ) = c.args.region.now in
    let k : ℕ = c.in-Some.cpu in
    let found : least (has c.walk.left) 128 ≡ Some k = sym c.in-Some.ensures.least in
    let came = walk_comes c.args.group old c.args.mind.now c.walk.left c.walk.region c.walk.mind k c.walk.invariant c.in-Some.ensures.within c.in-Some.ensures.is_in found in
    walk_more c.args.group old c.args.mind.now c.walk.left c.without-left.result k c.walk.region c.walk.mind c.collect_one.new.region c.collect_one.new.mind c.walk.invariant c.in-Some.ensures.within came.1 c.in-Some.ensures.is_in found c.without-left.ensures.here c.without-left.ensures.others
    (collected_one c.args.group old c.args.mind.now k c.walk.region c.collect_one.new.region c.walk.mind c.collect_one.new.mind came.0 came.1 c.collect_one.ensures.region c.collect_one.ensures.mind)

pub returns : goal.returns
returns c = walk_ends c.args.group c.args.region.now c.args.mind.now c.walk.left c.walk.region c.walk.mind c.walk.invariant c.in_default.ensures.empty
