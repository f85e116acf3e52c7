use Rattle.std.proofs.Common.{Option, None, Some, ℕ, ◌≡◌, ◌<◌, length, get_or, not, ◌&&◌, ap, arith, ◌∙◌}
use Rattle.std.proofs.lemmas.List.{get_or_default}
use Rattle.gs_status.specs.Masks.{has}
use Rattle.gs_beliefs.specs.ByThread.{is_in_bucket}
use Rattle.gs_beliefs.proofs.Index.{indexed_set}
use Rattle.gs_beliefs.proofs.by_thread.ByThread.seat.Goals as goal

pub invariant_of-self : goal.invariant_of-self
invariant_of-self c =
    let within : c.args.cpu < length c.self.inside.tids.items = omega (arith, ap length c.self.view_is) in
    let same = get_or_default c.self.inside.tids.items c.args.cpu c.index.result.now None within in
    let before : c.index.result.now ≡ get_or c.self.inside.tids.items c.args.cpu None = cc in
    indexed_set c.self.inside.tids.items c.self.inside.buckets.masks.items c.leave.new.self.masks.items c.enter.new.self.masks.items c.self.inside.vacant c.without-self-inside.result c.args.cpu (Some c.args.tid)
    (record {
      indexed = c.self.invariant;
      within = within;
      count = c.enter.ensures.count;
      left_here = λ bucket. c.leave.ensures.here bucket ∙ ap (λ (o : Option ℕ). has (get_or c.self.inside.buckets.masks.items bucket 0) c.args.cpu && not (is_in_bucket bucket o)) before;
      left_others = c.leave.ensures.others;
      here = c.enter.ensures.here;
      others = c.enter.ensures.others;
      vacant_here = c.without-self-inside.ensures.here;
      vacant_others = c.without-self-inside.ensures.others;
    })
