use Rattle.std.proofs.Common.{◌≡◌, Some, false, sym, arith}
use Rattle.gs_slots.specs.Reading.{told_by}
use Rattle.gs_status.specs.Masks.{has, least}
use Rattle.gs_status.proofs.Laws.{least_before}
use Rattle.gs_kernel.proofs.Counted.{count_without, none_in}
use Rattle.std.proofs.lemmas.Grind.{common_steps}
use Rattle.gs_kernel.proofs.Gathered.{gathered_busy, gathered_end, gathered_none, gathered_push, no_group}
use Rattle.gs_kernel.proofs.group.group_of.Goals as goal

pub returns-then-not-may_be_grouped : goal.returns-then-not-may_be_grouped
returns-then-not-may_be_grouped c =
    let none : c.may_be_grouped.result ≡ false = grind (arith, common_steps) in
    no_group c.args.mask c.args.region.now _ c.requires.few (c.may_be_grouped.ensures none) c.new.ensures.items

pub walk-init : goal.walk-init
walk-init c = gathered_none _ _ _ c.in_ok-group.ensures.items

pub add_member-requires : goal.add_member-requires
add_member-requires c = c.requires.within c.in-Some.cpu (gathered_busy _ _ _ _ _ c.walk.invariant c.in-Some.ensures.is_in)

pub walk-smaller : goal.walk-smaller
walk-smaller c = omega (arith, count_without c.walk.left c.without-left.result c.in-Some.cpu c.in-Some.ensures.is_in c.without-left.ensures.here c.without-left.ensures.others)

pub walk-preserved : goal.walk-preserved
walk-preserved c =
    let found : least (has c.walk.left) 128 ≡ Some c.in-Some.cpu = sym c.in-Some.ensures.least in
    gathered_push c.args.mask c.walk.left c.without-left.result c.in-Some.cpu c.args.region.now c.walk.group.items c.add_member.new.group.items c.walk.invariant c.in-Some.ensures.is_in
    (least_before (has c.walk.left) 128 c.in-Some.cpu found) c.without-left.ensures.here c.without-left.ensures.others (c.requires.within c.in-Some.cpu (gathered_busy _ _ _ _ _ c.walk.invariant c.in-Some.ensures.is_in)) c.in_ok-add_member.ensures

pub returns : goal.returns
returns c = gathered_end c.args.mask c.walk.left (told_by 0 c.args.region.now) c.walk.group.items c.walk.invariant (none_in c.walk.left c.in_default.ensures.empty)
