use Rattle.std.proofs.Common.{◌≡◌, ℕ, length, subst, arith}
use Rattle.gs_usage.specs.Boards.{IsBoard}
use Rattle.gs_usage.proofs.walk.walk.Goals as goal

pub returns-clause-board : goal.returns-clause-board
returns-clause-board c =
    let h = c.args.journal.now.entries in
    let all : c.loop-place.place ≡ length h = omega (arith, c.loop-place-test.false, c.loop-place.auto.place-end, c.len-place-end.ensures.value) in
    subst (λ (n : ℕ). IsBoard h n c.loop-place.board) all c.loop-place.invariant.board
