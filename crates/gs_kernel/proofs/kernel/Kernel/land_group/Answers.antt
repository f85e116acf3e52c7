use Rattle.std.proofs.Common.{◌≡◌, ◌++◌, [], map, ap, subst, arith}
use Rattle.std.proofs.lemmas.Grind.{common_steps}
use Rattle.gs_kernel.specs.declared.settings.Settings.{Settings}
use Rattle.gs_kernel.specs.Group.{Finishes, is_group_placed, member_landing}
use Rattle.gs_kernel.specs.Legal.{RoomOf}
use Rattle.gs_kernel.proofs.Groups.{rises_below}
use Rattle.gs_kernel.proofs.Together.{lands_together, none_together, puts_few}
use Rattle.gs_kernel.proofs.kernel.Kernel.land_group.Goals as goal

pub repeated_in-repeated-requires : goal.repeated_in-repeated-requires
repeated_in-repeated-requires g c = rises_below 0 c.args.self.now.settings.cpus 128 c.args.group.now (omega (arith, c.self.invariant.in_range.most_cpus, ap (λ v. v.settings.cpus) c.self.view_is)) c.requires.rises

pub returns-in_default-clause-lands : goal.returns-in_default-clause-lands
returns-in_default-clause-lands g c =
    let p = g.P.Poster in
    let none : c.args.group.now ≡ [] = grind (arith, common_steps) in
    none_together (RoomOf p.same p.consumed p.posted p.tight c.args.self.now.poster) c.args.self.now.settings c.args.group.now c.args.region.now c.args.self.now.history c.args.landings.now.items none

pub returns-clause-lands : goal.returns-clause-lands
returns-clause-lands g c =
    let p = g.P.Poster in
    let s = c.args.self.now.settings in
    let h = c.args.self.now.history in
    let h' = c.settle_group-together.new.self.history in
    let o = c.settle_group-together.result in
    let all = c.args.group.now in
    let before = c.args.landings.now.items in
    let after = c.finish_group.new.landings.items in
    let same : c.settle_group-together.new.self.settings ≡ s = c.settle_group-together.ensures.frame.settings in
    let marks = c.repeated_in-repeated.result in
    lands_together (RoomOf p.same p.consumed p.posted p.tight c.args.self.now.poster) s marks all c.args.region.now c.finish_group.new.region h h' o before after c.settle_group-together.ensures.settles c.repeated_in-repeated.ensures
    (subst (λ (z : Settings). Finishes (member_landing z h' marks o) all c.args.region.now c.finish_group.new.region) same c.finish_group.ensures.slots)
    (subst (λ (z : Settings). after ≡ before ++ map (member_landing z h' marks o) all) same c.finish_group.ensures.answers)

pub returns-clause-grown : goal.returns-clause-grown
returns-clause-grown g c =
    let p = g.P.Poster in
    let s = c.args.self.now.settings in
    let h = c.args.self.now.history in
    let t = c.settle_group-together.ensures.settles in
    (puts_few (is_group_placed s h c.args.group.now) (RoomOf p.same p.consumed p.posted p.tight c.args.self.now.poster) s h c.args.group.now t.0 c.settle_group-together.new.self.history t.1).0

pub returns-clause-most : goal.returns-clause-most
returns-clause-most g c =
    let p = g.P.Poster in
    let s = c.args.self.now.settings in
    let h = c.args.self.now.history in
    let t = c.settle_group-together.ensures.settles in
    (puts_few (is_group_placed s h c.args.group.now) (RoomOf p.same p.consumed p.posted p.tight c.args.self.now.poster) s h c.args.group.now t.0 c.settle_group-together.new.self.history t.1).1
