use Rattle.std.proofs.Common.{◌≡◌}
use Rattle.gs_usage.specs.Boards.{IsBoard}
use Rattle.gs_usage.proofs.walk.walk.Given as goal

abbrev pub invariant-loop-place : goal.invariant-loop-place
invariant-loop-place l = record {
  first : l.board.first ≡ l.first;
  board : IsBoard l.journal.entries l.place l.board;
}
