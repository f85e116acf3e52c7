use Rattle.std.proofs.Common.{◌≡◌, None, Some, Ok, IfOk, refl, sym, subst}
use Rattle.std.proofs.lemmas.Grind.{common_steps}
use Rattle.std.proofs.Common.{arith}
use Rattle.std.proofs.lemmas.List.{append-nil}
use Rattle.gs_slots.specs.SlotMut.{bytes_of, cpu_of, state_of}
use Rattle.gs_kernel.specs.Legal.{Room, RoomOf}
use Rattle.gs_kernel.specs.Lands.{LandsBytes}
use Rattle.gs_kernel.proofs.Commits.{land_ok}
use Rattle.gs_kernel.proofs.Landings.{asked_adds, held_few}
use Rattle.gs_kernel.proofs.kernel.Kernel.land_next.Goals as goal

pub unwrap-requires : goal.unwrap-requires
unwrap-requires g c =
    land_ok c.land.result c.args.self.now.settings c.args.self.now.history (cpu_of c.args.slot) (state_of c.args.slot) c.args.self.now.room c.land.ensures.memory c.land.ensures.reserved c.requires.entries

pub returns-in-Some-clause-lands : goal.returns-in-Some-clause-lands
returns-in-Some-clause-lands g c =
    let p = g.P.Poster in
    let room : Room = RoomOf p.same p.consumed p.posted p.tight c.args.self.now.poster in
    let ok : c.land.result ≡ Ok (Some c.in-Some.landing) = grind (arith, common_steps) in
    let lands = subst (λ q. IfOk q (λ o. LandsBytes room c.args.self.now.settings c.args.self.now.history (cpu_of c.args.slot) (bytes_of c.args.slot) o c.land.new.slot.0 c.land.new.self.history)) ok c.land.ensures.lands in
    asked_adds (LandsBytes room c.args.self.now.settings) _ _ _ _ (Some c.in-Some.landing) _ _ _ _ refl lands c.push_reserved.ensures.items

pub returns-in-Some-clause-few : goal.returns-in-Some-clause-few
returns-in-Some-clause-few g c =
    let p = g.P.Poster in
    let room : Room = RoomOf p.same p.consumed p.posted p.tight c.args.self.now.poster in
    let ok : c.land.result ≡ Ok (Some c.in-Some.landing) = grind (arith, common_steps) in
    let lands = subst (λ q. IfOk q (λ o. LandsBytes room c.args.self.now.settings c.args.self.now.history (cpu_of c.args.slot) (bytes_of c.args.slot) o c.land.new.slot.0 c.land.new.self.history)) ok c.land.ensures.lands in
    (held_few room _ _ _ _ _ _ _ lands).1

pub returns-in-None-clause-lands : goal.returns-in-None-clause-lands
returns-in-None-clause-lands g c =
    let p = g.P.Poster in
    let room : Room = RoomOf p.same p.consumed p.posted p.tight c.args.self.now.poster in
    let ok : c.land.result ≡ Ok None = grind (arith, common_steps) in
    let lands = subst (λ q. IfOk q (λ o. LandsBytes room c.args.self.now.settings c.args.self.now.history (cpu_of c.args.slot) (bytes_of c.args.slot) o c.land.new.slot.0 c.land.new.self.history)) ok c.land.ensures.lands in
    asked_adds (LandsBytes room c.args.self.now.settings) _ _ _ _ None _ _ _ _ refl lands (sym (append-nil _))
