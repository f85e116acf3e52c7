-- A list of tables, table by table.
use Rattle.std.proofs.Common.{◌+◌, List, ◌++◌, Result, Ok}
use Rattle.gs_workload.specs.declared.fault.Wrong.{Wrong}
use Rattle.gs_workload.specs.Values.{◌>>=◌}

-- those that were read, in front of what others say
abbrev pub with_front : {A : Type 0} → List A → Result (List A) Wrong → Result (List A) Wrong
with_front xs said = said >>= (λ ys. Ok (xs ++ ys))
