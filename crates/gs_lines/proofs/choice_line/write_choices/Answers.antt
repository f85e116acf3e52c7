use Rattle.std.proofs.Common.{false}
use Rattle.gs_lines.proofs.Choices.{written_more}
use Rattle.gs_lines.proofs.choice_line.write_choices.Goals as goal

pub loop-i-preserved : goal.loop-i-preserved
loop-i-preserved c =
    written_more c.args.out.now c.loop-i.out c.write_choice.new.out c.args.first c.loop-i.i c.args.choices.now (record { cpu = 0; tid = 0; preempt = false }) c.loop-i-test.true c.loop-i.invariant c.in_ok-write_choice.ensures
