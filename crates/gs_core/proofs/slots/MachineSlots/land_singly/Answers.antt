use Rattle.std.proofs.Common.{◌≡◌, ◌∙◌, ◌<◌, Some, true, ap, sym, suc, count_ones, get_or, length, refl, slice_get, arith}
use Rattle.std.proofs.lemmas.Option.{slice_get-get_or}
use Rattle.gs_status.specs.Masks.{has, least}
use Rattle.gs_status.proofs.Laws.{least_before}
use Rattle.gs_slots.specs.declared.state.SlotState.{SlotState}
use Rattle.gs_slots.specs.declared.state.SlotState.TheVariants.{Idle}
use Rattle.gs_agent.specs.Role.{RoleOf}
use Rattle.gs_kernel.specs.declared.settings.Settings.{Settings}
use Rattle.gs_kernel.specs.Legal.{Room, RoomOf}
use Rattle.gs_kernel.proofs.Laws.{count_some, count_without, none_in, room_later}
use Rattle.gs_core.proofs.AtOnce.{later_at_once, passed_end, passed_length, passed_none, passed_open, passed_push, passed_wanted}
use Rattle.gs_core.proofs.slots.MachineSlots.land_singly.Goals as goal

pub walk-init : goal.walk-init
walk-init g c =
    record {
      passed = passed_none _ _ _ _ _ _ _ c.requires.none_done;
      role = refl;
      frame = record { ring = g.met.P.Poster.same_refl _; stays = refl; told = c.requires.told; settings = refl; pages = refl };
      entries = c.requires.entries;
      room = c.requires.room;
    }

pub land_one-requires-clause-cpu : goal.land_one-requires-clause-cpu
land_one-requires-clause-cpu g c =
    let i = c.walk.invariant in
    let wanted : has c.args.mask c.in-Some.cpu ≡ true = passed_wanted _ _ _ _ _ _ _ _ _ _ _ _ _ i.passed c.in-Some.ensures.is_in in
    omega (arith, c.requires.within c.in-Some.cpu wanted, c.requires.cpus, passed_length _ _ _ _ _ _ _ _ _ _ _ _ i.passed)

pub land_one-requires-clause-cpus : goal.land_one-requires-clause-cpus
land_one-requires-clause-cpus g c =
    let i = c.walk.invariant in passed_length _ _ _ _ _ _ _ _ _ _ _ _ i.passed ∙ (c.requires.cpus ∙ sym (ap (λ (z : Settings). z.cpus) i.frame.settings))

pub land_one-requires-clause-none_done : goal.land_one-requires-clause-none_done
land_one-requires-clause-none_done g c = passed_open _ _ _ _ _ _ _ _ _ _ _ _ c.walk.invariant.passed

pub land_one-requires-clause-entries : goal.land_one-requires-clause-entries
land_one-requires-clause-entries g c =
    let i = c.walk.invariant in
    omega (arith, i.entries, count_some c.walk.left c.in-Some.cpu c.in-Some.ensures.is_in, ap (λ (z : Settings). z.history) i.frame.settings)

pub land_one-requires-clause-room : goal.land_one-requires-clause-room
land_one-requires-clause-room g c = omega (arith, c.walk.invariant.room, count_some c.walk.left c.in-Some.cpu c.in-Some.ensures.is_in)

pub walk-smaller : goal.walk-smaller
walk-smaller g c = omega (arith, count_without c.walk.left c.without-left.result c.in-Some.cpu c.in-Some.ensures.is_in c.without-left.ensures.here c.without-left.ensures.others)

pub walk-preserved : goal.walk-preserved
walk-preserved g c =
    let i = c.walk.invariant in
    let e = c.land_one.ensures in
    let p = g.P.Poster in
    let s = c.args.kernel.now.settings in
    let old = c.args.self.now in
    let k = c.in-Some.cpu in
    let left = c.walk.left in
    let room : Room = RoomOf p.same p.consumed p.posted p.tight c.args.kernel.now.poster in
    let room' : Room = RoomOf p.same p.consumed p.posted p.tight c.walk.kernel.poster in
    let there : has left k ≡ true = c.in-Some.ensures.is_in in
    let found : least (has left) 128 ≡ Some k = sym c.in-Some.ensures.least in
    let wanted : has c.args.mask k ≡ true = passed_wanted _ _ _ _ _ _ _ _ _ _ _ _ _ i.passed there in
    let lt : k < length old = omega (arith, c.requires.within k wanted, c.requires.cpus) in
    let z : SlotState = get_or c.walk.self k Idle in
    let is : slice_get c.walk.self k ≡ Some z = slice_get-get_or c.walk.self k Idle (omega (arith, lt, passed_length _ _ _ _ _ _ _ _ _ _ _ _ i.passed)) in
    let count : count_ones left ≡ suc (count_ones c.without-left.result) = count_without left c.without-left.result k there c.without-left.ensures.here c.without-left.ensures.others in
    record {
      passed = passed_push room s c.args.mask left c.without-left.result k old z c.args.kernel.now.history c.args.landings.now.items c.walk.landings.items c.land_one.new.landings.items c.walk.self c.land_one.new.self c.walk.kernel.history c.land_one.new.kernel.history c.args.role.now.mind c.walk.role.mind c.land_one.new.role.mind
          i.passed c.requires.none_done there (least_before (has left) 128 k found) lt c.without-left.ensures.here c.without-left.ensures.others is
          (later_at_once room' room s c.walk.kernel.settings k z c.walk.kernel.history c.land_one.new.kernel.history c.walk.landings.items c.land_one.new.landings.items c.walk.self c.land_one.new.self c.walk.role.mind c.land_one.new.role.mind
          (room_later p.same p.consumed p.posted p.tight c.args.kernel.now.poster c.walk.kernel.poster g.met.P.Poster.same_trans i.frame.ring i.frame.stays) i.frame.settings (e.lands z is));
      role = e.role ∙ ap (λ (r : RoleOf _). record r { mind = c.land_one.new.role.mind }) i.role;
      frame = record {
        ring = g.met.P.Poster.same_trans _ _ _ i.frame.ring e.frame.ring;
        stays = e.frame.stays ∙ i.frame.stays;
        told = e.frame.told;
        settings = e.frame.settings ∙ i.frame.settings;
        pages = e.frame.pages ∙ i.frame.pages;
      };
      entries = omega (arith, i.entries, e.entries, e.grown, e.few, count, ap (λ (z : Settings). z.history) i.frame.settings);
      room = omega (arith, i.room, e.room, e.capacity, count);
    }

pub returns-clause-lands : goal.returns-clause-lands
returns-clause-lands g c = passed_end _ _ _ _ _ _ _ _ _ _ _ _ c.walk.invariant.passed (none_in c.walk.left c.in_default.ensures.empty)
