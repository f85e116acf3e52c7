use Rattle.std.proofs.Common.{map}
use Rattle.gs_script.specs.Naming.{policy_kind}
use Rattle.gs_script.specs.Rows.{shown}
use Rattle.gs_beside.proofs.Reading.{IsReading}
use Rattle.gs_beside.proofs.own_policy.read_numbers.Given as goal

abbrev pub invariant-loop-place : goal.invariant-loop-place
invariant-loop-place l = IsReading (map policy_kind l.wanted) (shown l.words) l.numbers l.place
