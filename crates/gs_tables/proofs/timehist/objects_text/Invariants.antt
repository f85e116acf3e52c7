use Rattle.std.proofs.Common.{◌≡◌, take}
use Rattle.gs_tables.specs.Timehist.{object_of, rows}
use Rattle.gs_tables.proofs.timehist.objects_text.Given as goal

abbrev pub invariant-loop-turn : goal.invariant-loop-turn
invariant-loop-turn l = l.out ≡ rows (object_of l.lines) (take l.turn-index l.turns)
