-- Which transaction was stamped last for each CPU, as it is kept.
use Rattle.std.specs.Prelude.{◌≡◌, ℕ, Option, List}
use Rattle.gs_core.specs.declared.transaction.Transaction.{Transaction}
use Rattle.gs_reasons.specs.Marks.{mark_at}
use Rattle.gs_explain.specs.Landings.{last_for}

-- at each CPU's number stands the place of the last transaction for it
abbrev pub IsMarked : List (Option ℕ) → List Transaction → Type 0
IsMarked marks xs = (k : ℕ) → mark_at marks k ≡ last_for k xs
