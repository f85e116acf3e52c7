use Rattle.std.proofs.Common.{◌≡◌, ◌≤◌, ◌<◌, ◌∙◌, ◌+◌, ◌-◌, ◌++◌, ◌∷◌, [], ap, ap₂, sym, subst, ℕ, List, length, arith}
use Rattle.std.proofs.lemmas.List.FromFn.{map-range_with_len_more}
use Rattle.gs_status.specs.declared.mask.TheConstants.{MOST_CPUS}
use Rattle.gs_journal.specs.History.{History}
use Rattle.gs_usage.specs.Boards.{IsBoard}
use Rattle.gs_usage.specs.Uses.{usage_of}
use Rattle.gs_usage.specs.declared.board.Board.{Board}
use Rattle.gs_usage.specs.declared.usage.Usage.{Usage}
use Rattle.gs_usage.proofs.walk.usages.Goals as goal
use Rattle.gs_usage.proofs.walk.usages.Goals.{then-cpu-board-eq-MOST_CPUS+in_ok-board-2, else-cpu-board-eq-MOST_CPUS}

-- a board of the block that has a CPU
record IsBlock (h : History) (cpu : ℕ) (b : Board) : Type 0 where
  from : b.first ≤ cpu
  within : cpu < b.first + MOST_CPUS
  board : IsBoard h (length h) b

pub usage-requires-clause-board : goal.usage-requires-clause-board
usage-requires-clause-board c =
    let h = c.args.journal.now.entries in
    let is : IsBlock h c.loop-cpu.cpu c.if-cpu-board-eq-MOST_CPUS.board =
    elim c.if-cpu-board-eq-MOST_CPUS.branch [
      | then-cpu-board-eq-MOST_CPUS+in_ok-board-2 w ↦
          let first = w.in_ok-board-2.ensures.first in
          subst (IsBlock h c.loop-cpu.cpu) (sym w.board-is) (record { from = omega (arith, first); within = omega (arith, first); board = w.in_ok-board-2.ensures.board })
      | else-cpu-board-eq-MOST_CPUS w ↦
          let apart = w.if-cpu-board-eq-MOST_CPUS.false in
          let was = c.loop-cpu.invariant in
          let below = was.from in
          let above = was.within in
          subst (IsBlock h c.loop-cpu.cpu) (sym w.board-is) (record { from = below; within = omega (arith, apart, below, above); board = was.board })
    ] in
    is.board

pub loop-cpu-preserved : goal.loop-cpu-preserved
loop-cpu-preserved c =
    let h = c.args.journal.now.entries in
    let n = c.loop-cpu.cpu in
    let b = c.if-cpu-board-eq-MOST_CPUS.board in
    let is : IsBlock h n b =
    elim c.if-cpu-board-eq-MOST_CPUS.branch [
      | then-cpu-board-eq-MOST_CPUS+in_ok-board-2 w ↦
          let first = w.in_ok-board-2.ensures.first in
          subst (IsBlock h n) (sym w.board-is) (record { from = omega (arith, first); within = omega (arith, first); board = w.in_ok-board-2.ensures.board })
      | else-cpu-board-eq-MOST_CPUS w ↦
          let apart = w.if-cpu-board-eq-MOST_CPUS.false in
          let was = c.loop-cpu.invariant in
          let below = was.from in
          let above = was.within in
          subst (IsBlock h n) (sym w.board-is) (record { from = below; within = omega (arith, apart, below, above); board = was.board })
    ] in
    let below = is.from in
    let above = is.within in
    let place : b.first + (n - b.first) ≡ n = omega (arith, below) in
    record {
      from = omega (arith, below);
      within = omega (arith, above);
      board = is.board;
      all =
          c.in_ok-push.ensures.items
          ∙ (ap₂ (λ (us : List Usage) (u : Usage). us ++ u ∷ []) c.loop-cpu.invariant.all (c.usage.ensures ∙ ap (usage_of h) place)
          ∙ sym (map-range_with_len_more (usage_of h) 0 n n (omega arith)));
    }
