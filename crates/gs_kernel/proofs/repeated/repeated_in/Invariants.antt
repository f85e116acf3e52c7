use Rattle.std.proofs.Common.{◌-◌, ◌≤◌, length}
use Rattle.gs_kernel.proofs.Marks.{IsNoted}
use Rattle.gs_kernel.proofs.repeated.repeated_in.Given as goal

abbrev pub invariant-members : goal.invariant-members
invariant-members l = record { noted : IsNoted l.group l.at l.named l.repeated; within : l.at ≤ length l.group }

abbrev pub decreases-members : goal.decreases-members
decreases-members l = length l.group - l.at
