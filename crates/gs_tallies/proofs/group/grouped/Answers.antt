use Rattle.std.proofs.Common.{◌∙◌, ◌<◌, ◌==◌, ap, sym, subst, ℕ, ◌-◌, ◌^◌, get_or, take, arith, length}
use Rattle.std.specs.List.{filter}
use Rattle.gs_tallies.specs.Groups.{one_more}
use Rattle.gs_tallies.proofs.Groups.{kept_few, kept_more}
use Rattle.gs_tallies.proofs.group.grouped.Goals as goal

pub loop-thing-preserved : goal.loop-thing-preserved
loop-thing-preserved g c = record {
  count = c.in_ok-add_to.ensures.count ∙ c.loop-thing.invariant.count;
  each =
      λ p d lt.
      let here : g.row.T.Denot → _ = λ thing. g.G.Grouping.group c.args.grouping.now thing == p in
      let xs = c.args.things.now in
      let i = c.loop-thing.thing-index in
      let before = filter here (take i xs) in
      let few : length before < 2 ^ 64 - 1 = omega (arith, kept_few here xs i c.loop-thing-test.true, c.loop-thing-test.true, c.len-most.ensures, c.len-most.type_inv) in
      subst (λ own. g.D.Draft.drafts own (get_or c.add_to.new.all.items p d))
      (ap (λ (n : ℕ). one_more (n == p) c.thing-item.result before) c.group_of.ensures ∙ sym (kept_more here xs i c.thing-item.result c.loop-thing-test.true c.thing-item.is))
      (c.in_ok-add_to.ensures.each p d before (omega (arith, lt, c.loop-thing.invariant.count)) few (c.loop-thing.invariant.each p d lt));
}
