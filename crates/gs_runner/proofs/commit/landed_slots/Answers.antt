use Rattle.std.proofs.Common.{◌≡◌, ℕ, ◌<◌, ◌≤◌, List, length, sym, ap, subst, ◌∙◌}
use Rattle.gs_status.specs.Masks.{has}
use Rattle.gs_slots.specs.Busy.{is_busy_at}
use Rattle.gs_slots.proofs.Laws.{goes_up, none_before, none_left}
use Rattle.gs_runner.specs.Calls.{landed_slots}
use Rattle.gs_runner.proofs.Walking.{over_end, over_none, over_push, over_there}
use Rattle.gs_runner.proofs.commit.landed_slots.Goals as goal

pub walk-init : goal.walk-init
walk-init c =
    let same = sym c.busy.ensures.same in
    over_none c.args.mask c.both-left.result c.busy.result c.busy.new.self c.new-slots.result.items (subst (λ (z : List (List ℕ)). length z ≤ 128) same c.requires) c.both-left.ensures
    (subst (λ (z : List (List ℕ)). (k : ℕ) → k < 128 → has c.busy.result k ≡ is_busy_at z k) same c.busy.ensures.busy) c.new-slots.ensures.items

pub bytes-requires : goal.bytes-requires
bytes-requires c = (over_there c.args.mask c.walk.left c.in-Some.cpu c.busy.new.self c.walk.slots.items c.walk.invariant c.in-Some.ensures.within c.in-Some.ensures.is_in).1

pub walk-smaller : goal.walk-smaller
walk-smaller c = goes_up c.walk.left c.without-left.result c.in-Some.cpu (sym c.in-Some.ensures.least) c.in-Some.ensures.within c.without-left.ensures.here c.without-left.ensures.others

pub walk-preserved : goal.walk-preserved
walk-preserved c =
    over_push c.args.mask c.walk.left c.without-left.result c.in-Some.cpu c.busy.new.self c.bytes.result.now c.walk.slots.items c.add_slot.new.slots.items c.walk.invariant c.in-Some.ensures.within c.in-Some.ensures.is_in
    (none_before (has c.walk.left) 128 c.in-Some.cpu (sym c.in-Some.ensures.least)) c.without-left.ensures.here c.without-left.ensures.others c.bytes.ensures c.in_ok-add_slot.ensures

pub returns-clause-slots : goal.returns-clause-slots
returns-clause-slots c = over_end c.args.mask c.walk.left c.busy.new.self c.walk.slots.items c.walk.invariant (none_left c.walk.left c.in_default.ensures.empty) ∙ ap (landed_slots c.args.mask 0) c.busy.ensures.same
