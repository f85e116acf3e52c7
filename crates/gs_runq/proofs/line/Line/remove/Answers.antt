use Rattle.std.proofs.Common.{◌∙◌, sym, arith}
use Rattle.gs_runq.proofs.Lines.{parts, there}
use Rattle.gs_runq.proofs.Links.{stays}
use Rattle.gs_runq.proofs.line.Line.remove.Goals as goal

pub returns-then-not-has-clause-threads : goal.returns-then-not-has-clause-threads
returns-then-not-has-clause-threads c = stays _ _ (sym c.has.ensures.has ∙ c.if-not-has.true)

pub index-before-requires : goal.index-before-requires
index-before-requires c = omega (arith, (there _ _ _ _ _ _ c.self.view_is c.self.invariant.line (sym c.has.ensures.has ∙ c.if-not-has.false)).1)

pub index-after-requires : goal.index-after-requires
index-after-requires c = omega (arith, (there _ _ _ _ _ _ c.self.view_is c.self.invariant.line (sym c.has.ensures.has ∙ c.if-not-has.false)).0)

pub index_mut-requires : goal.index_mut-requires
index_mut-requires c = omega (arith, (parts _ _ _ _ _ _ _ _ c.self.view_is c.self.invariant.line c.index-before.ensures c.index-after.ensures (sym c.has.ensures.has ∙ c.if-not-has.false)).before_in)

pub index_mut-requires-2 : goal.index_mut-requires-2
index_mut-requires-2 c = omega (arith, (parts _ _ _ _ _ _ _ _ c.self.view_is c.self.invariant.line c.index-before.ensures c.index-after.ensures (sym c.has.ensures.has ∙ c.if-not-has.false)).previous_in)

pub overflow_sub-self : goal.overflow_sub-self
overflow_sub-self c = omega (arith, (parts _ _ _ _ _ _ _ _ c.self.view_is c.self.invariant.line c.index-before.ensures c.index-after.ensures (sym c.has.ensures.has ∙ c.if-not-has.false)).some)

pub invariant_of-self : goal.invariant_of-self
invariant_of-self c = record { reserved = c.self.invariant.reserved; line = (parts _ _ _ _ _ _ _ _ c.self.view_is c.self.invariant.line c.index-before.ensures c.index-after.ensures (sym c.has.ensures.has ∙ c.if-not-has.false)).line }

pub returns-clause-threads : goal.returns-clause-threads
returns-clause-threads c = (parts _ _ _ _ _ _ _ _ c.self.view_is c.self.invariant.line c.index-before.ensures c.index-after.ensures (sym c.has.ensures.has ∙ c.if-not-has.false)).threads

pub index_mut-requires-3 : goal.index_mut-requires-3
index_mut-requires-3 c = omega (arith, (there _ _ _ _ _ _ c.self.view_is c.self.invariant.line (sym c.has.ensures.has ∙ c.if-not-has.false)).0)
