use Rattle.std.proofs.Common.{◌≡◌, ◌++◌, take}
use Rattle.gs_tables.specs.Timehist.{heading, row_of, rows}
use Rattle.gs_tables.proofs.timehist.table_text.Given as goal

abbrev pub invariant-loop-turn : goal.invariant-loop-turn
invariant-loop-turn l = l.out ≡ heading ++ rows (row_of l.lines) (take l.turn-index l.turns)
