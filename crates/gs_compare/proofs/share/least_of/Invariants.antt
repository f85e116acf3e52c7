use Rattle.std.proofs.Common.{◌≡◌, ◌-◌, ◌^◌, min, take}
use Rattle.std.specs.List.{fold}
use Rattle.gs_compare.proofs.share.least_of.Given as goal

abbrev pub invariant-loop-number : goal.invariant-loop-number
invariant-loop-number l = l.least ≡ fold min (2 ^ 64 - 1) (take l.number-index l.numbers)
