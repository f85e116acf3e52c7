use Rattle.gs_tables.specs.Timehist.{object_of}
use Rattle.gs_tables.proofs.Rowing.{rows_more}
use Rattle.gs_tables.proofs.timehist.objects_text.Goals as goal

pub loop-turn-preserved : goal.loop-turn-preserved
loop-turn-preserved c =
    rows_more (object_of c.args.lines.now) c.args.turns.now c.loop-turn.turn-index _ c.loop-turn.out c.push_object.new.out c.loop-turn-test.true c.loop-turn.invariant c.in_ok-push_object.ensures
