use Rattle.std.proofs.Common.{◌≡◌, ◌<◌, ◌+◌, ◌*◌, ◌^◌, ℕ, length}
use Rattle.gs_usage.specs.Counting.{totalled}
use Rattle.gs_usage.proofs.totals.digits_for.Given as goal

abbrev pub invariant-loop-left : goal.invariant-loop-left
invariant-loop-left l = record {
  totals : (i : ℕ) → totalled l.digits.items i ≡ 0;
  room : l.most < 2 ^ length l.digits.items * (l.left + 1);
}

-- the number that is left
abbrev pub decreases-loop-left : goal.decreases-loop-left
decreases-loop-left l = l.left
