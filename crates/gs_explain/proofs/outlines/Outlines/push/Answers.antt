use Rattle.std.proofs.Common.{length}
use Rattle.gs_explain.proofs.Aside.{all_added}
use Rattle.gs_explain.proofs.outlines.Outlines.push.Goals as goal

pub invariant_of-self : goal.invariant_of-self
invariant_of-self c =
    let asides = c.self.inside.asides.items in
    all_added c.push_in_place.result asides c.self.inside.shorts.items c.push_in_place.new.items.items c.in-Some.short c.push_in_place.ensures.added c.push_in_place.ensures.kept c.self.invariant (c.in-Some.ensures.alone (length asides))
