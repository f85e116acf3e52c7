use Rattle.std.proofs.Common.{◌≡◌, ◌∙◌, Ok, Some, IfOk, map, slice_set, ap, refl, sym, subst, arith}
use Rattle.std.proofs.lemmas.Grind.{common_steps}
use Rattle.gs_slots.specs.declared.state.SlotState.{SlotState}
use Rattle.gs_slots.specs.declared.state.SlotState.TheVariants.{Idle}
use Rattle.gs_slots.proofs.Laws.{told_is}
use Rattle.gs_agent.specs.Role.{RoleOf}
use Rattle.gs_agent.specs.Mind.{MindState}
use Rattle.gs_kernel.specs.Legal.{Room, RoomOf}
use Rattle.gs_kernel.specs.Lands.{Lands}
use Rattle.gs_kernel.proofs.Laws.{stamp_ok}
use Rattle.gs_core.proofs.AtOnce.{none_at_once, one_at_once}
use Rattle.gs_core.proofs.Regions.{AreRead, cleared_read, count_is, read_told}
use Rattle.gs_core.proofs.slots.MachineSlots.land_one.Goals as goal
use Rattle.gs_core.proofs.slots.MachineSlots.land_one.Goals.{After-clear_slot}

pub unwrap-landing-requires : goal.unwrap-landing-requires
unwrap-landing-requires g c = stamp_ok c.land_stamp.result c.args.kernel.now.settings c.args.kernel.now.history c.args.cpu c.in-Stamped.stamp c.args.kernel.now.room c.land_stamp.ensures.memory c.land_stamp.ensures.reserved c.requires.entries

pub clear_slot-requires : goal.clear_slot-requires
clear_slot-requires g c = omega (arith, c.requires.cpu, count_is c.self.inside.region c.args.self.now (c.self.invariant ∙ ap (map Ok) c.self.view_is))

same_slot : (x z : SlotState) → Some x ≡ Some z → x ≡ z
same_slot x z e = cc

left : (g : _) (c : After-clear_slot g) → AreRead c.clear_slot.new.self (slice_set c.args.self.now c.args.cpu Idle)
left g c = subst (λ bs. AreRead bs (slice_set c.args.self.now c.args.cpu Idle)) (sym c.clear_slot.ensures) (cleared_read c.self.inside.region c.args.self.now c.args.cpu (c.self.invariant ∙ ap (map Ok) c.self.view_is))

pub invariant_of-self : goal.invariant_of-self
invariant_of-self g c = read_told c.clear_slot.new.self (slice_set c.args.self.now c.args.cpu Idle) (left g c)

pub returns-in-Stamped-clause-lands : goal.returns-in-Stamped-clause-lands
returns-in-Stamped-clause-lands g c = λ z found.
    let p = g.P.Poster in
    let room : Room = RoomOf p.same p.consumed p.posted p.tight c.args.kernel.now.poster in
    let ok : c.land_stamp.result ≡ Ok c.unwrap-landing.result = grind (arith, common_steps) in
    let lands = subst (λ q. IfOk q (λ l. Lands room c.args.kernel.now.settings c.args.kernel.now.history c.args.cpu c.in-Stamped.stamp l c.land_stamp.new.self.history)) ok c.land_stamp.ensures.lands in
    one_at_once room c.args.kernel.now.settings c.args.cpu z c.in-Stamped.stamp c.unwrap-landing.result c.args.kernel.now.history c.land_stamp.new.self.history c.args.landings.now.items _ c.args.self.now _ c.args.role.now.mind c.learn.new.self.mind
    found (c.state.ensures ∙ ap Some c.in-Stamped.is) lands c.push_reserved.ensures.items (told_is 0 c.clear_slot.new.self (slice_set c.args.self.now c.args.cpu Idle) (left g c)) (ap (λ (r : RoleOf _). r.mind) (c.learn.ensures c.unwrap-landing.result.seen))

pub returns-in-Stamped-clause-role : goal.returns-in-Stamped-clause-role
returns-in-Stamped-clause-role g c = c.learn.ensures 0 ∙ ap (λ (v : MindState). record c.args.role.now { mind = v }) (sym (ap (λ (r : RoleOf _). r.mind) (c.learn.ensures 0)))

pub returns-in_default : goal.returns-in_default
returns-in_default g c =
    record {
      lands = λ z found. none_at_once _ _ _ z _ _ _ _ c.requires.none_done found (λ b is. c.in_default.not-Stamped b (same_slot c.state.result z (sym c.state.ensures ∙ found) ∙ is));
      role = refl;
      frame = record { ring = g.met.P.Poster.same_refl _; stays = refl; told = c.requires.told; settings = refl; pages = refl };
      entries = omega arith;
      grown = omega arith;
      few = omega arith;
      room = omega arith;
      capacity = refl;
    }
