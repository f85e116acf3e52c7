use Rattle.std.proofs.Common.{◌≡◌}
use Rattle.circular_buffer.specs.Buffer.{buffer, keep_last}
use Rattle.gs_report.proofs.last_lines.last_lines.Given as goal

abbrev pub invariant-loop-line : goal.invariant-loop-line
invariant-loop-line l = l.kept ≡ buffer (keep_last l.most l.yielded) l.most
