use Rattle.std.proofs.Common.{sym, ◌∙◌, arith}
use mathlib.Core.Option.{none}
use Rattle.atomic_table.specs.Table.{step}
use Rattle.gs_board.proofs.Moves.{reads_high, reads_low, reads_role}
use Rattle.gs_board.proofs.board.Board.read.Goals as goal

pub load-role-requires : goal.load-role-requires
load-role-requires g c =
    let i = c.seat.invariant in
    let t = c.args.self.now.table.shared in
    (i.0 ∙ sym c.args.self.now.is, omega (arith, c.args.self.now.three), reads_role t.key t.table_id.slots c.seat.inside.seat.id c.seat.inside.seat.me (step 0 0 0 0 none))

pub load-low-requires : goal.load-low-requires
load-low-requires g c =
    let t = c.args.self.now.table.shared in
    let seat = c.load-role.new.seat in
    (c.load-role.ensures.0 ∙ c.seat.invariant.0 ∙ sym c.args.self.now.is, omega (arith, c.args.self.now.three), reads_low t.key t.table_id.slots seat.id seat.me (step 0 0 0 0 none))

pub load-high-requires : goal.load-high-requires
load-high-requires g c =
    let t = c.args.self.now.table.shared in
    let seat = c.load-low.new.seat in
    (c.load-low.ensures.0 ∙ c.load-role.ensures.0 ∙ c.seat.invariant.0 ∙ sym c.args.self.now.is, omega (arith, c.args.self.now.three), reads_high t.key t.table_id.slots seat.id seat.me (step 0 0 0 0 none))
