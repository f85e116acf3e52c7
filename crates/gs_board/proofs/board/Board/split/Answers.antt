use Rattle.std.proofs.Common.{sym, ◌∙◌, arith}
use Rattle.gs_board.proofs.Moves.{splits}
use Rattle.gs_board.proofs.board.Board.split.Goals as goal

pub split_seat-requires : goal.split_seat-requires
split_seat-requires g c =
    let i = c.seat.invariant in
    (i.0 ∙ sym c.args.self.now.is, omega (arith, c.args.self.now.three), splits c.args.self.now.table.shared.key c.seat.inside.seat.id c.seat.inside.seat.me.0)
