use Rattle.std.proofs.Common.{◌≡◌, take}
use Rattle.gs_compare.specs.Shares.{total_of}
use Rattle.gs_compare.proofs.share.sum_of.Given as goal

abbrev pub invariant-loop-number : goal.invariant-loop-number
invariant-loop-number l = l.total ≡ total_of (take l.number-index l.numbers)
