use Rattle.gs_script.specs.Unread.{said_line}
use Rattle.gs_explain.specs.Quiet.{quiet_row}
use Rattle.gs_explain.specs.declared.quiet.Quiet.TheVariants as quiets
use Rattle.gs_explain.proofs.Keeping.{held_then}
use Rattle.gs_explain.proofs.rows.Rows.add_nothing.Goals as goal

pub invariant_of-self : goal.invariant_of-self
invariant_of-self c = held_then c.self.inside.page (quiet_row (said_line c.args.said.now) quiets.Nothing) c.nothing_row.new.self c.self.inside.pieces.items c.self.inside.kepts.items c.in-Ok.ensures c.self.invariant
