use Rattle.std.proofs.Common.{sym, ◌∙◌, arith}
use mathlib.Core.Option.{none}
use Rattle.atomic_table.specs.Table.{step}
use Rattle.gs_board.proofs.Moves.{publishes_low}
use Rattle.gs_board.proofs.board.Board.publish_low.Goals as goal

pub store-requires : goal.store-requires
store-requires g c =
    let i = c.seat.invariant in
    let t = c.args.self.now.table.shared in
    (i.0 ∙ sym c.args.self.now.is, omega (arith, c.args.self.now.three), publishes_low t.key t.table_id.slots c.seat.inside.seat.id c.seat.inside.seat.me (step 0 0 0 0 none) c.args.low i.2)
