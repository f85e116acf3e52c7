use Rattle.std.proofs.Common.{length}
use Rattle.gs_journal.specs.Last.{entry_lent}
use Rattle.gs_script.specs.Unread.{said_line}
use Rattle.gs_explain.specs.Rows.{done_row}
use Rattle.gs_explain.proofs.Keeping.{held_then}
use Rattle.gs_explain.proofs.rows.Rows.add_done.Goals as goal

pub invariant_of-self : goal.invariant_of-self
invariant_of-self c = held_then c.self.inside.page (done_row (said_line c.args.said.now) c.args.first (length c.args.journal.now.entries) (entry_lent c.args.last)) c.write_done.new.out c.self.inside.pieces.items c.self.inside.kepts.items c.in-Ok.ensures.shown c.self.invariant
