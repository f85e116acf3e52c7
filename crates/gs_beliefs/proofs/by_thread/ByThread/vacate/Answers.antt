use Rattle.std.proofs.Common.{List, Option, None, Some, ℕ, ◌≡◌, ◌&&◌, not, get_or, ap, refl, sym, ◌∙◌}
use Rattle.std.proofs.Math.Bool.{or-false}
use Rattle.gs_status.specs.Masks.{has}
use Rattle.gs_beliefs.specs.ByThread.{is_in_bucket, stands}
use Rattle.gs_beliefs.proofs.Index.{indexed_set, stands_below}
use Rattle.gs_beliefs.proofs.by_thread.ByThread.vacate.Goals as goal

pub invariant_of-self : goal.invariant_of-self
invariant_of-self c =
    let xs = c.self.inside.tids.items in
    let left = c.leave.new.self.masks.items in
    let here : stands xs c.args.cpu ≡ Some c.args.tid = ap (λ (ys : List (Option ℕ)). stands ys c.args.cpu) c.self.view_is ∙ c.requires in
    indexed_set xs c.self.inside.buckets.masks.items left left c.self.inside.vacant c.with-self-inside.result c.args.cpu None
    (record {
      indexed = c.self.invariant;
      within = stands_below xs c.args.cpu c.args.tid here;
      count = c.leave.ensures.count;
      left_here = λ bucket. c.leave.ensures.here bucket ∙ ap (λ (o : Option ℕ). has (get_or c.self.inside.buckets.masks.items bucket 0) c.args.cpu && not (is_in_bucket bucket o)) (sym here);
      left_others = c.leave.ensures.others;
      here = λ bucket. sym (or-false (has (get_or left bucket 0) c.args.cpu));
      others = λ bucket d other. refl;
      vacant_here = c.with-self-inside.ensures.here;
      vacant_others = c.with-self-inside.ensures.others;
    })
