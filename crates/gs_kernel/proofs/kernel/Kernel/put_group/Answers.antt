use Rattle.std.proofs.Common.{◌≡◌, true, ap, sym, subst, arith}
use Rattle.std.proofs.lemmas.Grind.{common_steps}
use Rattle.gs_kernel.specs.declared.settings.Settings.{Settings}
use Rattle.gs_kernel.specs.Legal.{RoomOf}
use Rattle.gs_kernel.specs.Ready.{AreReady}
use Rattle.gs_kernel.proofs.Groups.{stands, stands_then}
use Rattle.gs_kernel.proofs.kernel.Kernel.put_group.Goals as goal

pub give_way-requires-clause-numbered : goal.give_way-requires-clause-numbered
give_way-requires-clause-numbered g c = (stands c.args.self.now.settings c.args.self.now.history c.args.group.now c.requires.rises c.requires.placed).numbered

pub give_way-requires-clause-room : goal.give_way-requires-clause-room
give_way-requires-clause-room g c =
    let w = stands c.args.self.now.settings c.args.self.now.history c.args.group.now c.requires.rises c.requires.placed in
    omega (arith, w.least, c.requires.room)

pub give_way-requires-clause-few : goal.give_way-requires-clause-few
give_way-requires-clause-few g c =
    let w = stands c.args.self.now.settings c.args.self.now.history c.args.group.now c.requires.rises c.requires.placed in
    omega (arith, w.least, w.most)

pub place_all-requires-clause-ready : goal.place_all-requires-clause-ready
place_all-requires-clause-ready g c =
    let p = g.P.Poster in
    let fits : c.give_way.result ≡ true = grind (arith, common_steps) in
    let w = stands_then (RoomOf p.same p.consumed p.posted p.tight c.args.self.now.poster) c.args.self.now.settings c.args.self.now.history c.args.group.now c.give_way.result c.give_way.new.self.history fits
    (stands c.args.self.now.settings c.args.self.now.history c.args.group.now c.requires.rises c.requires.placed) c.give_way.ensures.gives in
    subst (λ (z : Settings). AreReady z c.give_way.new.self.history c.args.group.now) (sym c.give_way.ensures.frame.settings) w.ready

pub place_all-requires-clause-free : goal.place_all-requires-clause-free
place_all-requires-clause-free g c =
    let p = g.P.Poster in
    let fits : c.give_way.result ≡ true = grind (arith, common_steps) in
    (stands_then (RoomOf p.same p.consumed p.posted p.tight c.args.self.now.poster) c.args.self.now.settings c.args.self.now.history c.args.group.now c.give_way.result c.give_way.new.self.history fits
    (stands c.args.self.now.settings c.args.self.now.history c.args.group.now c.requires.rises c.requires.placed) c.give_way.ensures.gives).free

pub place_all-requires-clause-apart : goal.place_all-requires-clause-apart
place_all-requires-clause-apart g c = (stands c.args.self.now.settings c.args.self.now.history c.args.group.now c.requires.rises c.requires.placed).apart

pub place_all-requires-clause-room : goal.place_all-requires-clause-room
place_all-requires-clause-room g c =
    let p = g.P.Poster in
    let fits : c.give_way.result ≡ true = grind (arith, common_steps) in
    let w = stands_then (RoomOf p.same p.consumed p.posted p.tight c.args.self.now.poster) c.args.self.now.settings c.args.self.now.history c.args.group.now c.give_way.result c.give_way.new.self.history fits
    (stands c.args.self.now.settings c.args.self.now.history c.args.group.now c.requires.rises c.requires.placed) c.give_way.ensures.gives in
    omega (arith, w.count, c.give_way.ensures.room, c.requires.room)

pub place_all-requires-clause-few : goal.place_all-requires-clause-few
place_all-requires-clause-few g c =
    let p = g.P.Poster in
    let fits : c.give_way.result ≡ true = grind (arith, common_steps) in
    let v = stands c.args.self.now.settings c.args.self.now.history c.args.group.now c.requires.rises c.requires.placed in
    let w = stands_then (RoomOf p.same p.consumed p.posted p.tight c.args.self.now.poster) c.args.self.now.settings c.args.self.now.history c.args.group.now c.give_way.result c.give_way.new.self.history fits v c.give_way.ensures.gives in
    omega (arith, w.count, v.most, ap (λ (z : Settings). z.history) c.give_way.ensures.frame.settings)
