use Rattle.std.proofs.Common.{◌≡◌, take}
use Rattle.gs_lines.specs.Lines.{lines}
use Rattle.gs_lines.proofs.reply_line.text_of.Given as goal

abbrev pub invariant-loop-reply : goal.invariant-loop-reply
invariant-loop-reply l = l.out ≡ lines (take l.reply-index l.replies)
