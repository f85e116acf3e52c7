use Rattle.std.proofs.Common.{◌≡◌, ◌++◌, take}
use Rattle.gs_lines.specs.Lines.{view_lines}
use Rattle.gs_lines.proofs.thread_line.write_view.Given as goal

abbrev pub invariant-loop-known : goal.invariant-loop-known
invariant-loop-known l = l.out ≡ l.fn.out ++ view_lines (take l.known-index l.view)
