use Rattle.std.proofs.Common.{◌∙◌, inl, inr}
use Rattle.gs_sets.proofs.Summed.{summed_set}
use Rattle.gs_sets.proofs.number_set.NumberSet.set.Goals as goal
use Rattle.gs_sets.proofs.number_set.NumberSet.set.Goals.{then-holds, else-holds}

pub invariant_of-self : goal.invariant_of-self
invariant_of-self c =
    summed_set c.self.inside.numbers c.set.new.self c.self.inside.words c.set-2.new.self c.args.number c.args.holds c.if-holds.has_some
    c.self.invariant c.set.ensures.here c.set.ensures.words c.set.ensures.room c.set-2.ensures.here c.set-2.ensures.others c.set-2.ensures.room
    (elim c.if-holds.branch [
      | then-holds w ↦ inl (w.if-holds.true, w.has_some-is ∙ w.if-holds.true)
      | else-holds w ↦ inr (w.has_some-is ∙ w.has_some-has_some.ensures)
    ])
