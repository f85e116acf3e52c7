use Rattle.std.proofs.Common.{◌∙◌, Ok, map, ap}
use Rattle.gs_kernel.specs.Legal.{Room, RoomOf}
use Rattle.gs_core.proofs.Regions.{commit_lands, commit_left, count_is}
use Rattle.gs_core.proofs.slots.MachineSlots.commit.Goals as goal

pub txns_commit_into-requires : goal.txns_commit_into-requires
txns_commit_into-requires g c = record { cpus = count_is c.self.inside.region c.args.self.now (c.self.invariant ∙ ap (map Ok) c.self.view_is) ∙ c.requires.cpus }

pub invariant_of-self : goal.invariant_of-self
invariant_of-self g c =
    let p = g.P.Poster in
    let room : Room = RoomOf p.same p.consumed p.posted p.tight c.args.kernel.now.poster in
    commit_left room c.args.kernel.now.settings c.args.mask c.self.inside.region c.txns_commit_into.new.region c.args.self.now c.args.kernel.now.history c.txns_commit_into.new.self.history c.txns_commit_into.result c.args.landings.now.items c.txns_commit_into.new.landings.items _ (c.self.invariant ∙ ap (map Ok) c.self.view_is) c.txns_commit_into.ensures.lands c.txns_commit_into.ensures.unchanged

pub returns-clause-lands : goal.returns-clause-lands
returns-clause-lands g c =
    let p = g.P.Poster in
    let room : Room = RoomOf p.same p.consumed p.posted p.tight c.args.kernel.now.poster in
    commit_lands room c.args.kernel.now.settings c.args.mask c.self.inside.region c.txns_commit_into.new.region c.args.self.now c.args.kernel.now.history c.txns_commit_into.new.self.history c.txns_commit_into.result c.args.landings.now.items c.txns_commit_into.new.landings.items (c.self.invariant ∙ ap (map Ok) c.self.view_is) c.txns_commit_into.ensures.lands
