use Rattle.std.proofs.Common.{◌≡◌, ◌++◌, take}
use Rattle.gs_lines.specs.Lines.{landing_lines}
use Rattle.gs_lines.proofs.reply_line.write_landings.Given as goal

abbrev pub invariant-loop-landing : goal.invariant-loop-landing
invariant-loop-landing l = l.out ≡ l.fn.out ++ landing_lines (take l.landing-index l.landings)
