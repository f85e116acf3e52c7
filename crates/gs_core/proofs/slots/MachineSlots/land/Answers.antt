use Rattle.std.proofs.Common.{◌≡◌, ◌∙◌, ◌≤◌, None, Ok, List, map, ap, subst, length, arith}
use Rattle.std.proofs.lemmas.Grind.{common_steps}
use Rattle.gs_kernel.specs.declared.settings.Settings.{Settings}
use Rattle.gs_kernel.specs.Commit.{commit_refusal}
use Rattle.gs_kernel.specs.Kernel.{KernelOf}
use Rattle.gs_kernel.specs.declared.landing.Landing.{Landing}
use Rattle.gs_kernel.specs.Legal.{RoomOf}
use Rattle.gs_kernel.proofs.Laws.{commits_within, has_below}
use Rattle.gs_core.specs.AtOnce.{LandsAtOnce}
use Rattle.gs_core.proofs.AtOnce.{alike_busy, commits_at_once, no_flag, of_mask}
use Rattle.gs_core.proofs.slots.MachineSlots.land.Goals as goal

pub land_singly-requires-clause-within : goal.land_singly-requires-clause-within
land_singly-requires-clause-within g c = λ k there.
    let none : commit_refusal c.args.kernel.now.settings c.args.kernel.now.history c.args.mask ≡ None = grind (arith, common_steps) in
    let lt = has_below c.args.mask c.args.kernel.now.settings.cpus k (commits_within _ _ _ none) (of_mask c.args.mask c.both-some.result k _ (c.both-some.ensures k) there) in
    omega (arith, lt, ap (λ (z : KernelOf _). z.settings.cpus) c.reserve-2.ensures.same)

pub returns-clause-lands : goal.returns-clause-lands
returns-clause-lands g c =
    let p = g.P.Poster in
    let read = c.self.invariant ∙ ap (map Ok) c.self.view_is in
    let few : length c.args.self.now ≤ 128 = omega (arith, c.requires.cpus, c.settings-settings.ensures.in_range.most_cpus, ap (λ (z : Settings). z.cpus) c.settings-settings.ensures.value) in
    commits_at_once (RoomOf p.same p.consumed p.posted p.tight c.args.kernel.now.poster) c.args.kernel.now.settings c.both-some.result c.args.mask c.args.self.now c.args.kernel.now.history c.args.landings.now.items c.land_singly.new.landings.items c.land_singly.new.self c.land_singly.new.kernel.history c.args.role.now.mind c.land_singly.new.role.mind
    c.requires.none_done (no_flag c.args.mask c.self.inside.region c.args.self.now read (c.may_be_grouped.ensures c.if-may_be_grouped.false) few)
    (alike_busy c.both-some.result c.args.mask c.may_be_busy.result c.self.inside.region c.args.self.now read c.may_be_busy.ensures c.both-some.ensures few)
    (subst (λ (xs : List Landing). LandsAtOnce (RoomOf p.same p.consumed p.posted p.tight c.args.kernel.now.poster) c.args.kernel.now.settings c.both-some.result c.args.self.now c.args.kernel.now.history xs c.land_singly.new.landings.items c.land_singly.new.self c.land_singly.new.kernel.history c.args.role.now.mind c.land_singly.new.role.mind) c.reserve.ensures.items
    (subst (λ (w : KernelOf _). LandsAtOnce (RoomOf p.same p.consumed p.posted p.tight w.poster) w.settings c.both-some.result c.args.self.now w.history c.reserve.new.self.items c.land_singly.new.landings.items c.land_singly.new.self c.land_singly.new.kernel.history c.args.role.now.mind c.land_singly.new.role.mind) c.reserve-2.ensures.same c.land_singly.ensures.lands))
