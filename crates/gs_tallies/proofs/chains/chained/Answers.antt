use Rattle.std.proofs.Common.{◌≡◌, ◌∙◌, ℕ, ap, length}
use Rattle.gs_tallies.proofs.Links.{one_linked}
use Rattle.gs_tallies.proofs.chains.chained.Goals as goal

pub loop-behind-preserved : goal.loop-behind-preserved
loop-behind-preserved g c =
    let group : g.row.T.Denot → ℕ = λ thing. g.G.Grouping.group c.args.grouping.now thing in
    let counted : c.len-all.result ≡ length c.args.things.now = c.len-all.ensures.value ∙ ap (λ xs. length xs) c.iter.ensures.rest in
    let linked =
    one_linked group c.args.things.now c.args.count c.loop-behind.behind c.len-all.result c.group_of-group.result c.put_first.result c.loop-behind.firsts.items c.put_first.new.firsts.items c.loop-behind.nexts.items c.push.new.self.items c.index-things-all.result
    record { groups = c.loop-behind.invariant.count; ranks = c.loop-behind.invariant.ranks; lead = c.loop-behind.invariant.lead }
    counted c.loop-behind-test.true c.index-things-all.is c.group_of-group.ensures c.put_first.ensures.before c.put_first.ensures.count c.put_first.ensures.noted c.in_ok-push.ensures.items in
    record { count = linked.groups; ranks = linked.ranks; lead = linked.lead }
