use Rattle.std.proofs.Common.{subst}
use Rattle.gs_kernel.specs.Legal.{Room, RoomOf, Tells}
use Rattle.gs_kernel.specs.Lands.{placement}
use Rattle.gs_kernel.proofs.Landings.{lands_gone, lands_placed}
use Rattle.gs_kernel.proofs.kernel.Kernel.land_placed.Goals as goal

pub returns-then-branch-clause-lands : goal.returns-then-branch-clause-lands
returns-then-branch-clause-lands g c =
    let p = g.P.Poster in
    let k = c.args.self.now in
    let b = c.args.slot.now in
    let room : Room = RoomOf p.same p.consumed p.posted p.tight k.poster in
    lands_placed room k.settings k.history c.args.cpu b c.place.new.self.history c.requires.cpu c.requires.placed
    (subst (λ f. Tells room k.history (placement k.settings k.history c.args.cpu b) f c.place.new.self.history) c.if-branch.true c.in_ok-place.ensures.tells)

pub returns-else-branch-clause-lands : goal.returns-else-branch-clause-lands
returns-else-branch-clause-lands g c =
    let p = g.P.Poster in
    let k = c.args.self.now in
    let b = c.args.slot.now in
    let room : Room = RoomOf p.same p.consumed p.posted p.tight k.poster in
    lands_gone room k.settings k.history c.args.cpu b c.place.new.self.history c.requires.placed
    (subst (λ f. Tells room k.history (placement k.settings k.history c.args.cpu b) f c.place.new.self.history) c.if-branch.false c.in_ok-place.ensures.tells)
