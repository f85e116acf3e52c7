use Rattle.std.proofs.Common.{◌≡◌, ◌<◌, ℕ, length}
use Rattle.std.specs.Prelude.{slice_index}
use Rattle.gs_runq.proofs.line.lead_back.Given as goal

-- the places before this one lead to themselves
abbrev pub invariant-loop-at : goal.invariant-loop-at
invariant-loop-at l =
    record {
      count : length l.table ≡ length l.initial.table;
      own : (i : ℕ) → i < l.at → slice_index l.table i ≡ i;
    }
