use Rattle.std.proofs.Common.{◌≡◌, ◌+◌, ◌-◌, length, vec_capacity}
use Rattle.gs_runq.proofs.Longer.{GrowsLonger}
use Rattle.gs_runq.proofs.line.lengthen.Given as goal

abbrev pub invariant-loop-table : goal.invariant-loop-table
invariant-loop-table l = record { longer : GrowsLonger l.fn.table.items l.table.items l.tid; capacity : vec_capacity l.table ≡ vec_capacity l.fn.table }

abbrev pub decreases-loop-table : goal.decreases-loop-table
decreases-loop-table l = l.tid + 1 - length l.table.items
