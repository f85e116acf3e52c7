use Rattle.std.proofs.Common.{◌≡◌, ◌++◌, take}
use Rattle.gs_lines.specs.Lines.{choice_lines}
use Rattle.gs_lines.proofs.choice_line.write_choices.Given as goal

abbrev pub invariant-loop-i : goal.invariant-loop-i
invariant-loop-i l = l.out ≡ l.fn.out ++ choice_lines l.first (take l.i l.choices)
