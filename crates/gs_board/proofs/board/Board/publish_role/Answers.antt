use Rattle.std.proofs.Common.{◌/◌, sym, ap, ◌∙◌, subst, arith}
use mathlib.Core.Option.{none}
use Rattle.atomic_table.specs.Table.{step}
use Rattle.gs_board.specs.declared.rule.Words.{Words}
use Rattle.gs_board.specs.Words.{MayFollow}
use Rattle.gs_board.proofs.Moves.{publishes_role}
use Rattle.gs_board.proofs.board.Board.publish_role.Goals as goal

pub store-requires : goal.store-requires
store-requires g c =
    let i = c.seat.invariant in
    let t = c.args.self.now.table.shared in
    let role = c.role_word-role in
    let may : MayFollow c.seat.inside.seat.me.0.words.roles (role.result / 65536) = subst (λ (w : Words). MayFollow w.roles (role.result / 65536)) (sym c.seat.view_is) (subst (MayFollow c.args.seat.now.roles) (sym (ap (λ p. p.0) role.ensures.says)) c.requires) in
    (i.0 ∙ sym c.args.self.now.is, omega (arith, c.args.self.now.three), publishes_role t.key t.table_id.slots c.seat.inside.seat.id c.seat.inside.seat.me (step 0 0 0 0 none) role.result i.2 may role.ensures.narrow)
