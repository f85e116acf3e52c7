use Rattle.std.proofs.Common.{sym, arith}
use Rattle.gs_runq.proofs.Lines.{says, says_past, says_zero, tids}
use Rattle.gs_runq.proofs.line.Line.has.Goals as goal

pub returns-then-at-len-clause-has : goal.returns-then-at-len-clause-has
returns-then-at-len-clause-has c = sym (says_past c.self.inside.next.items c.self.inside.previous.items c.self.inside.count c.args.tid _ _ c.self.view_is c.self.invariant.line (omega (arith, c.if-at-len.true, c.len.ensures)))

pub returns-then-tid-ne0-clause-has : goal.returns-then-tid-ne0-clause-has
returns-then-tid-ne0-clause-has c =
    says c.self.inside.next.items c.self.inside.previous.items c.self.inside.count c.args.tid _ _ _ c.self.view_is c.self.invariant.line (omega arith) (omega (arith, c.if-at-len.false, c.len.ensures)) c.index.ensures

pub returns-else-tid-ne0-clause-has : goal.returns-else-tid-ne0-clause-has
returns-else-tid-ne0-clause-has c = says_zero c.self.inside.next.items c.self.inside.previous.items c.self.inside.count c.args.tid _ _ c.self.view_is c.self.invariant.line c.if-tid-ne0.false

pub returns-then-at-len-clause-tids : goal.returns-then-at-len-clause-tids
returns-then-at-len-clause-tids c = tids c.self.inside.next.items c.self.inside.previous.items c.self.inside.count _ _ c.self.view_is c.self.invariant.line

pub returns-then-tid-ne0-clause-tids : goal.returns-then-tid-ne0-clause-tids
returns-then-tid-ne0-clause-tids c = tids c.self.inside.next.items c.self.inside.previous.items c.self.inside.count _ _ c.self.view_is c.self.invariant.line

pub returns-else-tid-ne0-clause-tids : goal.returns-else-tid-ne0-clause-tids
returns-else-tid-ne0-clause-tids c = tids c.self.inside.next.items c.self.inside.previous.items c.self.inside.count _ _ c.self.view_is c.self.invariant.line
