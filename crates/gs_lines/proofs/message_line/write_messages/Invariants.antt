use Rattle.std.proofs.Common.{◌≡◌, ◌++◌, take}
use Rattle.gs_lines.specs.Lines.{message_lines}
use Rattle.gs_lines.proofs.message_line.write_messages.Given as goal

abbrev pub invariant-loop-message : goal.invariant-loop-message
invariant-loop-message l = l.out ≡ l.fn.out ++ message_lines (take l.message-index l.messages)
