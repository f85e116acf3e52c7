use Rattle.std.proofs.Common.{◌≡◌, ◌++◌, take}
use Rattle.gs_lines.specs.Lines.{live_lines}
use Rattle.gs_lines.proofs.thread_line.write_threads.Given as goal

abbrev pub invariant-loop-thread : goal.invariant-loop-thread
invariant-loop-thread l = l.out ≡ l.fn.out ++ live_lines (take l.thread-index l.threads)
