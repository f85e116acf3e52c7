use Rattle.std.proofs.Common.{ℕ, List, [], length, ap, subst, arith}
use Rattle.gs_kernel.specs.Group.{CommitsRegion}
use Rattle.gs_kernel.specs.Lands.{Adds}
use Rattle.gs_runner.proofs.Committing.{answers_count, has_committed, told_committed}
use Rattle.gs_runner.proofs.Rooms.{EndRoom}
use Rattle.gs_runner.proofs.commit.try_commit.Goals as goal

pub copy-requires : goal.copy-requires
copy-requires c =
    let k = c.args.kernel.now in
    let lands = subst (λ (z : List (List ℕ)). Adds (CommitsRegion (EndRoom k.poster) k.settings c.args.mask z k.history) [] c.in_ok-landings.landings.items c.txns_commit.new.region c.txns_commit.new.self.history) c.in_ok-slots.ensures.same c.in_ok-landings.ensures.lands in
    let n = answers_count (EndRoom k.poster) k.settings c.args.mask c.args.region.now c.txns_commit.new.region k.history c.in_ok-landings.landings.items c.txns_commit.new.self.history lands in
    omega (arith, n, ap length c.deref.ensures.value, ap length c.in_ok-slots.ensures.slots, c.len.ensures, c.in_ok-again.ensures.len, c.in_ok-again.ensures.capacity)

pub returns-clause-told : goal.returns-clause-told
returns-clause-told c =
    let k = c.args.kernel.now in
    let lands = subst (λ (z : List (List ℕ)). Adds (CommitsRegion (EndRoom k.poster) k.settings c.args.mask z k.history) [] c.in_ok-landings.landings.items c.txns_commit.new.region c.txns_commit.new.self.history) c.in_ok-slots.ensures.same c.in_ok-landings.ensures.lands in
    let commits = has_committed k c.txns_commit.new.self c.args.mask c.args.region.now c.txns_commit.new.region c.in_ok-landings.landings.items c.is_torn-torn.result c.landed.result c.in_ok-landings.ensures.accepted lands c.is_torn-torn.ensures c.landed.ensures in
    told_committed k c.txns_commit.new.self c.args.mask c.args.region.now c.txns_commit.new.region c.in_ok-landings.landings.items c.is_torn-torn.result c.landed.result c.requires commits c.in_ok-landings.ensures.frame c.landed.ensures

pub returns-clause-commits : goal.returns-clause-commits
returns-clause-commits c =
    let k = c.args.kernel.now in
    let lands = subst (λ (z : List (List ℕ)). Adds (CommitsRegion (EndRoom k.poster) k.settings c.args.mask z k.history) [] c.in_ok-landings.landings.items c.txns_commit.new.region c.txns_commit.new.self.history) c.in_ok-slots.ensures.same c.in_ok-landings.ensures.lands in
    has_committed k c.txns_commit.new.self c.args.mask c.args.region.now c.txns_commit.new.region c.in_ok-landings.landings.items c.is_torn-torn.result c.landed.result c.in_ok-landings.ensures.accepted lands c.is_torn-torn.ensures c.landed.ensures
