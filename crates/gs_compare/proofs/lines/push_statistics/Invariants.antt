use Rattle.std.proofs.Common.{◌≡◌, ◌++◌, take}
use Rattle.gs_compare.specs.Lines.{statistics_words}
use Rattle.gs_compare.proofs.lines.push_statistics.Given as goal

abbrev pub invariant-loop-policy : goal.invariant-loop-policy
invariant-loop-policy g l = l.out ≡ l.fn.out ++ statistics_words (take l._policy-index l.policies)
