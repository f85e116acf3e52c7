use Rattle.std.proofs.Common.{◌≡◌, ◌∙◌, ◌<◌, Some, true, ap, sym, subst, suc, count_ones, length, arith, rules}
use Rattle.gs_slots.specs.SlotMut.{bytes_of}
use Rattle.gs_status.specs.Masks.{has, least}
use Rattle.gs_status.proofs.Laws.{least_before}
use Rattle.gs_kernel.specs.declared.settings.Settings.{Settings}
use Rattle.gs_kernel.specs.Legal.{Room, RoomOf}
use Rattle.gs_kernel.specs.Lands.{Adds, LandsBytes, LandsIfBy}
use Rattle.gs_kernel.proofs.Counted.{count_some, count_without, has_below, none_in}
use Rattle.gs_kernel.proofs.Landings.{bytes_map, if_map, room_later}
use Rattle.gs_kernel.proofs.Idle.{some_land}
use Rattle.gs_kernel.proofs.Walked.{lowest_wanted, walked_end, walked_length, walked_none, walked_push}
use Rattle.gs_kernel.proofs.kernel.Kernel.land_all.Goals as goal

pub walk-init : goal.walk-init
walk-init g c = record { walked = walked_none _ _ _ _ _; frame = search rules; entries = c.requires.entries; room = c.requires.room }

pub slot-requires : goal.slot-requires
slot-requires g c =
    let i = c.walk.invariant in
    let wanted : has c.args.mask c.in-Some.cpu ≡ true = c.requires.some c.in-Some.cpu (lowest_wanted _ _ _ _ _ _ _ _ _ _ i.walked c.in-Some.ensures.is_in) in
    let lt = has_below c.args.mask c.args.self.now.settings.cpus c.in-Some.cpu c.requires.within wanted in
    omega (arith, lt, c.requires.cpus, walked_length _ _ _ _ _ _ _ _ _ i.walked)

pub land_next-requires-clause-cpu : goal.land_next-requires-clause-cpu
land_next-requires-clause-cpu g c =
    let i = c.walk.invariant in
    let wanted : has c.args.mask c.in-Some.cpu ≡ true = c.requires.some c.in-Some.cpu (lowest_wanted _ _ _ _ _ _ _ _ _ _ i.walked c.in-Some.ensures.is_in) in
    let lt = has_below c.args.mask c.args.self.now.settings.cpus c.in-Some.cpu c.requires.within wanted in
    omega (arith, lt, c.slot.ensures.cpu, ap (λ (z : Settings). z.cpus) i.frame.settings)

pub land_next-requires-clause-entries : goal.land_next-requires-clause-entries
land_next-requires-clause-entries g c =
    let i = c.walk.invariant in
    omega (arith, i.entries, count_some c.walk.left c.in-Some.cpu c.in-Some.ensures.is_in, ap (λ (z : Settings). z.history) i.frame.settings)

pub land_next-requires-clause-room : goal.land_next-requires-clause-room
land_next-requires-clause-room g c = omega (arith, c.walk.invariant.room, count_some c.walk.left c.in-Some.cpu c.in-Some.ensures.is_in)

pub walk-smaller : goal.walk-smaller
walk-smaller g c = omega (arith, count_without c.walk.left c.without-left.result c.in-Some.cpu c.in-Some.ensures.is_in c.without-left.ensures.here c.without-left.ensures.others)

pub walk-preserved : goal.walk-preserved
walk-preserved g c =
    let i = c.walk.invariant in
    let e = c.land_next.ensures in
    let p = g.P.Poster in
    let s = c.args.self.now.settings in
    let old = c.args.region.now in
    let k = c.in-Some.cpu in
    let left = c.walk.left in
    let x = bytes_of c.slot.result in
    let now = c.walk.self.history in
    let room : Room = RoomOf p.same p.consumed p.posted p.tight c.args.self.now.poster in
    let room' : Room = RoomOf p.same p.consumed p.posted p.tight c.walk.self.poster in
    let there : has left k ≡ true = c.in-Some.ensures.is_in in
    let found : least (has left) 128 ≡ Some k = sym c.in-Some.ensures.least in
    let wanted : has c.args.mask k ≡ true = c.requires.some k (lowest_wanted _ _ _ _ _ _ _ _ _ _ i.walked there) in
    let lt : k < length old = omega (arith, has_below c.args.mask s.cpus k c.requires.within wanted, c.requires.cpus) in
    let count : count_ones left ≡ suc (count_ones c.without-left.result) = count_without left c.without-left.result k there c.without-left.ensures.here c.without-left.ensures.others in
    let y = e.lands in
    let is : LandsIfBy (LandsBytes room' s) true k x now y.made = subst (λ (z : Settings). LandsIfBy (LandsBytes room' z) true k x now y.made) i.frame.settings
    (subst (λ n. LandsIfBy (LandsBytes room' c.walk.self.settings) true n x now y.made) c.slot.ensures.cpu y.lands) in
    let one : Adds (LandsIfBy (LandsBytes room s) true k x now) c.walk.landings.items c.land_next.new.landings.items _ c.land_next.new.self.history =
    record { made = y.made; lands = if_map (LandsBytes room' s) (LandsBytes room s) true k x now y.made (bytes_map room' room s (room_later p.same p.consumed p.posted p.tight c.args.self.now.poster c.walk.self.poster g.met.P.Poster.same_trans i.frame.ring i.frame.stays)) is; answers = y.answers; slots = y.slots; history = y.history } in
    record {
      walked = walked_push (LandsBytes room s) c.args.some left c.without-left.result k old x c.land_next.new.slot.0 c.args.self.now.history c.args.landings.now.items c.walk.landings.items c.land_next.new.landings.items c.walk.region now c.land_next.new.self.history
          i.walked there (least_before (has left) 128 k found) lt c.without-left.ensures.here c.without-left.ensures.others c.slot.ensures.bytes one;
      frame = record {
        ring = g.met.P.Poster.same_trans _ _ _ i.frame.ring e.frame.ring;
        stays = e.frame.stays ∙ i.frame.stays;
        told = e.frame.told;
        settings = e.frame.settings ∙ i.frame.settings;
        pages = e.frame.pages ∙ i.frame.pages;
      };
      entries = omega (arith, i.entries, e.entries, e.grown, e.few, count, ap (λ (z : Settings). z.history) i.frame.settings);
      room = omega (arith, i.room, e.room, e.capacity, count);
    }

pub returns-clause-lands : goal.returns-clause-lands
returns-clause-lands g c =
    let p = g.P.Poster in
    some_land (RoomOf p.same p.consumed p.posted p.tight c.args.self.now.poster) c.args.self.now.settings c.args.some c.args.mask c.args.region.now c.args.self.now.history c.args.landings.now.items c.walk.landings.items c.walk.region c.walk.self.history
    c.requires.some c.requires.others
    (walked_end _ _ _ _ _ _ _ _ _ c.walk.invariant.walked (none_in c.walk.left c.in_default.ensures.empty))
