use Rattle.std.proofs.Common.{arith}
use Rattle.gs_lines.specs.Lines.{line}
use Rattle.gs_history.specs.Journal.{numbered}
use Rattle.gs_history.proofs.Places.{written_more}
use Rattle.gs_history.proofs.entry_line.journal_text.Goals as goal

pub loop-place-preserved : goal.loop-place-preserved
loop-place-preserved c =
    written_more (λ n e. line (numbered n e)) c.loop-place.place c.args.journal.now.entries c.entry.result c.loop-place.out c.write_line.new.out (omega (arith, c.loop-place-test.true, c.len-place-end.ensures.value)) c.entry.ensures.item c.loop-place.invariant c.in_ok-write_line.ensures
