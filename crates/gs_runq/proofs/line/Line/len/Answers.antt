use Rattle.gs_runq.proofs.Lines.{count_is}
use Rattle.gs_runq.proofs.line.Line.len.Goals as goal

pub returns : goal.returns
returns c = count_is c.self.inside.next.items c.self.inside.count _ _ c.self.view_is
