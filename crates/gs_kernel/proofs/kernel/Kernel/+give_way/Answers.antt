use Rattle.std.proofs.Common.{◌≡◌, ◌∷◌, true, length, ap, sym, subst, arith, rules}
use Rattle.std.proofs.lemmas.Grind.{common_steps}
use Rattle.gs_kernel.specs.declared.settings.Settings.{Settings}
use Rattle.gs_kernel.specs.Group.{GiveWay, Group}
use Rattle.gs_kernel.specs.Kernel.{preemption}
use Rattle.gs_kernel.specs.Legal.{RoomOf}
use Rattle.gs_kernel.specs.Ready.{AreNumbered}
use Rattle.gs_kernel.proofs.Groups.{gave_few, gave_then, numbered_gave}
use Rattle.gs_kernel.proofs.Landings.{room_later}
use Rattle.gs_kernel.proofs.kernel.Kernel.+give_way.Goals as goal

pub give_way-requires : goal.give_way-requires
give_way-requires g t c κs within =
    let p = g.P.Poster in
    let s = c.args.self.now.settings in
    let h = c.args.self.now.history in
    let mid = c.make_way.new.self.history in
    let x = c.in-Some.field-0-0.now in
    let rest = c.in-Some.rest.now in
    let whole : c.args.group.now ≡ x ∷ rest = c.in-Some.ensures.cases.0 in
    let same : c.make_way.new.self.settings ≡ s = c.make_way.ensures.frame.settings in
    let fits : c.make_way.result ≡ true = grind (arith, common_steps) in
    let numbered = subst (λ (z : Group). AreNumbered s h z) whole c.requires.numbered in
    let few = gave_few (RoomOf p.same p.consumed p.posted p.tight c.args.self.now.poster) h (preemption s h x.0) c.make_way.result mid c.make_way.ensures.gives in
    let k = ap length whole in
    let most = ap (λ (z : Settings). z.history) same in (
      search rules,
      (
        search rules,
        (
          subst (λ (z : Settings). AreNumbered z mid rest) (sym same) (numbered_gave (RoomOf p.same p.consumed p.posted p.tight c.args.self.now.poster) s h x.0 c.make_way.result mid rest c.make_way.ensures.gives fits numbered.2),
          (
            omega (arith, k, few, c.make_way.ensures.room, c.requires.room),
            omega (arith, k, few, most, c.requires.few),
          ),
        ),
      ),
    )

pub returns-clause-gives : goal.returns-clause-gives
returns-clause-gives g t c =
    let p = g.P.Poster in
    let s = c.args.self.now.settings in
    let h = c.args.self.now.history in
    let mid = c.make_way.new.self.history in
    let x = c.in-Some.field-0-0.now in
    let rest = c.in-Some.rest.now in
    let old = c.args.self.now.poster in
    let new = c.make_way.new.self.poster in
    let whole : c.args.group.now ≡ x ∷ rest = c.in-Some.ensures.cases.0 in
    let same : c.make_way.new.self.settings ≡ s = c.make_way.ensures.frame.settings in
    let fits : c.make_way.result ≡ true = grind (arith, common_steps) in
    let later = room_later p.same p.consumed p.posted p.tight old new g.met.P.Poster.same_trans c.make_way.ensures.frame.ring c.make_way.ensures.frame.stays in
    subst (λ (z : Group). GiveWay (RoomOf p.same p.consumed p.posted p.tight old) s z h c.give_way.result c.give_way.new.self.history) (sym whole)
    (gave_then (RoomOf p.same p.consumed p.posted p.tight old) (RoomOf p.same p.consumed p.posted p.tight new) s x rest h c.make_way.result mid c.give_way.result c.give_way.new.self.history fits later c.make_way.ensures.gives
    (subst (λ (z : Settings). GiveWay (RoomOf p.same p.consumed p.posted p.tight new) z rest mid c.give_way.result c.give_way.new.self.history) same c.give_way.ensures.gives))
