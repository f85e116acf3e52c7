use Rattle.std.proofs.Common.{◌≡◌, ◌∙◌, ◌&&◌, ◌≤◌, ℕ, None, List, not, length, ap, sym, subst, arith}
use Rattle.std.proofs.lemmas.Grind.{common_steps}
use Rattle.gs_status.specs.Masks.{has, has_past}
use Rattle.gs_slots.specs.Busy.{is_busy_at}
use Rattle.gs_slots.specs.Reading.{told_by}
use Rattle.gs_kernel.specs.declared.landing.Landing.{Landing}
use Rattle.gs_kernel.specs.declared.settings.Settings.{Settings}
use Rattle.gs_kernel.specs.Commit.{commit_refusal}
use Rattle.gs_kernel.specs.Group.{CommitsRegion, Group, LandsTogether, group_in, is_for}
use Rattle.gs_kernel.specs.Lands.{Adds}
use Rattle.gs_kernel.specs.Legal.{RoomOf}
use Rattle.gs_kernel.specs.Ready.{Rises}
use Rattle.gs_kernel.proofs.Counted.{has_below}
use Rattle.gs_kernel.proofs.Groups.{below_more, rise_below}
use Rattle.gs_kernel.proofs.Gathered.{group_is}
use Rattle.gs_kernel.proofs.Idle.{of_mask}
use Rattle.gs_kernel.proofs.Landings.{room_later}
use Rattle.gs_kernel.proofs.Refusals.{commits_within}
use Rattle.gs_kernel.proofs.Together.{commits, later_adds, nothing_left, rises_few, rises_is, stamped_is, together_many}
use Rattle.gs_kernel.proofs.kernel.Kernel.txns_commit_into.Goals as goal

pub group_of-requires-clause-few : goal.group_of-requires-clause-few
group_of-requires-clause-few g c = omega (arith, c.requires.cpus, c.self.invariant.in_range.most_cpus, ap (λ v. v.settings.cpus) c.self.view_is, ap length c.busy.ensures.same)

pub group_of-requires-clause-within : goal.group_of-requires-clause-within
group_of-requires-clause-within g c i there =
    let none : commit_refusal c.args.self.now.settings c.args.self.now.history c.args.mask ≡ None = grind (arith, common_steps) in
    let wanted = of_mask c.args.mask c.both-busy.result i (has c.busy.result i) (c.both-busy.ensures i) there in
    let lt = has_below c.args.mask c.args.self.now.settings.cpus i (commits_within _ _ _ none) wanted in
    omega (arith, lt, c.requires.cpus, ap length c.busy.ensures.same)

pub land_group-requires-clause-rises : goal.land_group-requires-clause-rises
land_group-requires-clause-rises g c =
    let same = ap (λ v. v.settings) c.reserve-2.ensures.same in
    subst (λ (z : Settings). Rises 0 z.cpus c.deref.result.now) (sym same)
    (rises_is c.args.self.now.settings c.args.mask c.busy.new.self c.deref.result.now (ap length c.busy.ensures.same ∙ c.requires.cpus) (group_is c.both-busy.result c.busy.result c.args.mask c.args.region.now c.busy.new.self c.deref.result.now c.busy.ensures.same (omega (arith, c.requires.cpus, c.self.invariant.in_range.most_cpus, ap (λ v. v.settings.cpus) c.self.view_is)) c.both-busy.ensures c.busy.ensures.busy (c.deref.ensures.value ∙ c.in_ok-group.ensures)))

pub land_group-requires-clause-few : goal.land_group-requires-clause-few
land_group-requires-clause-few g c =
    let rises = rises_is c.args.self.now.settings c.args.mask c.busy.new.self c.deref.result.now (ap length c.busy.ensures.same ∙ c.requires.cpus) (group_is c.both-busy.result c.busy.result c.args.mask c.args.region.now c.busy.new.self c.deref.result.now c.busy.ensures.same (omega (arith, c.requires.cpus, c.self.invariant.in_range.most_cpus, ap (λ v. v.settings.cpus) c.self.view_is)) c.both-busy.ensures c.busy.ensures.busy (c.deref.ensures.value ∙ c.in_ok-group.ensures)) in
    let few = rises_few c.args.self.now.settings 0 c.deref.result.now rises (omega arith) in
    omega (arith, few, c.self.invariant.in_range.most_cpus, ap (λ v. v.settings.cpus) c.self.view_is)

pub land_group-requires-clause-stamped : goal.land_group-requires-clause-stamped
land_group-requires-clause-stamped g c = stamped_is c.args.mask c.busy.new.self c.deref.result.now (group_is c.both-busy.result c.busy.result c.args.mask c.args.region.now c.busy.new.self c.deref.result.now c.busy.ensures.same (omega (arith, c.requires.cpus, c.self.invariant.in_range.most_cpus, ap (λ v. v.settings.cpus) c.self.view_is)) c.both-busy.ensures c.busy.ensures.busy (c.deref.ensures.value ∙ c.in_ok-group.ensures))

pub land_all-requires-clause-cpus : goal.land_all-requires-clause-cpus
land_all-requires-clause-cpus g c =
    let many = together_many _ _ _ _ _ _ _ _ _ c.land_group.ensures.lands in
    many ∙ (ap length c.busy.ensures.same ∙ (c.requires.cpus ∙ sym (ap (λ (z : Settings). z.cpus) c.land_group.ensures.frame.settings ∙ ap (λ v. v.settings.cpus) c.reserve-2.ensures.same)))

pub land_all-requires-clause-within : goal.land_all-requires-clause-within
land_all-requires-clause-within g c =
    let none : commit_refusal c.args.self.now.settings c.args.self.now.history c.args.mask ≡ None = grind (arith, common_steps) in
    ap (λ (z : Settings). has_past c.args.mask z.cpus) c.land_group.ensures.frame.settings ∙ (ap (λ v. has_past c.args.mask v.settings.cpus) c.reserve-2.ensures.same ∙ commits_within _ _ _ none)

pub without_group-requires : goal.without_group-requires
without_group-requires g c =
    let few : length c.args.region.now ≤ 128 = omega (arith, c.requires.cpus, c.self.invariant.in_range.most_cpus, ap (λ v. v.settings.cpus) c.self.view_is) in
    let group = group_is c.both-busy.result c.busy.result c.args.mask c.args.region.now c.busy.new.self c.deref-2.result.now c.busy.ensures.same few c.both-busy.ensures c.busy.ensures.busy (c.deref-2.ensures.value ∙ c.in_ok-group.ensures) in
    below_more c.args.self.now.settings.cpus 128 c.deref-2.result.now (omega (arith, c.self.invariant.in_range.most_cpus, ap (λ v. v.settings.cpus) c.self.view_is))
    (rise_below c.args.self.now.settings 0 c.deref-2.result.now (rises_is c.args.self.now.settings c.args.mask c.busy.new.self c.deref-2.result.now (ap length c.busy.ensures.same ∙ c.requires.cpus) group))

pub land_all-requires-clause-some : goal.land_all-requires-clause-some
land_all-requires-clause-some g c i there =
    let busy = of_mask c.both-busy.result c.without_group.result i (not (is_for i c.deref-2.result.now)) (c.without_group.ensures.others i) there in
    of_mask c.args.mask c.both-busy.result i (has c.busy.result i) (c.both-busy.ensures i) busy

pub land_all-requires-clause-others : goal.land_all-requires-clause-others
land_all-requires-clause-others g c =
    let few : length c.args.region.now ≤ 128 = omega (arith, c.requires.cpus, c.self.invariant.in_range.most_cpus, ap (λ v. v.settings.cpus) c.self.view_is) in
    let group = group_is c.both-busy.result c.busy.result c.args.mask c.args.region.now c.busy.new.self c.deref.result.now c.busy.ensures.same few c.both-busy.ensures c.busy.ensures.busy (c.deref.ensures.value ∙ c.in_ok-group.ensures) in
    let same = ap (λ v. v.settings) c.reserve-2.ensures.same in
    let rises = subst (λ (z : Settings). Rises 0 z.cpus c.deref.result.now) (sym same)
    (rises_is c.args.self.now.settings c.args.mask c.busy.new.self c.deref.result.now (ap length c.busy.ensures.same ∙ c.requires.cpus) group)
    in
    let again : c.deref-2.result.now ≡ c.deref.result.now = c.deref-2.ensures.value ∙ sym c.deref.ensures.value in
    nothing_left _ _ c.args.mask c.busy.result c.without_group.result _ _ _ _ _ _ _ rises (stamped_is c.args.mask c.busy.new.self c.deref.result.now group) c.land_group.ensures.lands
    (omega (arith, few, ap length c.busy.ensures.same))
    (λ i lt. c.busy.ensures.busy i lt ∙ sym (ap (λ (z : List (List ℕ)). is_busy_at z i) c.busy.ensures.same))
    (λ i. c.without_group.ensures.others i ∙ (ap (λ b. b && not (is_for i c.deref-2.result.now)) (c.both-busy.ensures i) ∙ ap (λ (q : Group). (has c.args.mask i && has c.busy.result i) && not (is_for i q)) again))

pub returns-clause-lands : goal.returns-clause-lands
returns-clause-lands g c =
    let p = g.P.Poster in
    let k = c.reserve-2.new.self in
    let mid = c.land_group.new in
    let end = c.land_all.new in
    let r = c.busy.new.self in
    let none = c.reserve.new.self.items in
    let group : c.deref.result.now ≡ group_in c.args.mask 0 (told_by 0 r) = group_is c.both-busy.result c.busy.result c.args.mask c.args.region.now c.busy.new.self c.deref.result.now c.busy.ensures.same (omega (arith, c.requires.cpus, c.self.invariant.in_range.most_cpus, ap (λ v. v.settings.cpus) c.self.view_is)) c.both-busy.ensures c.busy.ensures.busy (c.deref.ensures.value ∙ c.in_ok-group.ensures) in
    let first = subst (λ (z : Group). Adds (LandsTogether (RoomOf p.same p.consumed p.posted p.tight k.poster) k.settings z r k.history) none mid.landings.items mid.region mid.self.history) group c.land_group.ensures.lands in
    let later = room_later p.same p.consumed p.posted p.tight k.poster mid.self.poster g.met.P.Poster.same_trans c.land_group.ensures.frame.ring c.land_group.ensures.frame.stays in
    let rest = later_adds (RoomOf p.same p.consumed p.posted p.tight mid.self.poster) (RoomOf p.same p.consumed p.posted p.tight k.poster) mid.self.settings k.settings c.args.mask mid.region end.region mid.self.history end.self.history mid.landings.items end.landings.items later
    c.land_group.ensures.frame.settings c.land_all.ensures.lands in
    let both = commits (RoomOf p.same p.consumed p.posted p.tight k.poster) k.settings c.args.mask r mid.region end.region k.history mid.self.history end.self.history none mid.landings.items end.landings.items first rest in
    let from_old = subst (λ (z : List Landing). Adds (CommitsRegion (RoomOf p.same p.consumed p.posted p.tight k.poster) k.settings c.args.mask r k.history) z end.landings.items end.region end.self.history) c.reserve.ensures.items both in
    let of_region = subst (λ (z : List (List ℕ)). Adds (CommitsRegion (RoomOf p.same p.consumed p.posted p.tight k.poster) k.settings c.args.mask z k.history) c.args.landings.now.items end.landings.items end.region end.self.history) c.busy.ensures.same from_old in
    subst (λ v. Adds (CommitsRegion (RoomOf p.same p.consumed p.posted p.tight v.poster) v.settings c.args.mask c.args.region.now v.history) c.args.landings.now.items end.landings.items end.region end.self.history) c.reserve-2.ensures.same of_region
