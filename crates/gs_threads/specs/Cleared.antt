-- Rows whose threads were taken off.
use Rattle.std.specs.Prelude.{◌≡◌, ◌≤◌, ◌⊎◌, ℕ, Option, Some, List, length}
use Rattle.std.specs.Option.{option_map}
use Rattle.gs_threads.specs.declared.row.ThreadRow.{ThreadRow}
use Rattle.gs_threads.specs.Rows.{row_placed}
use Rattle.gs_threads.specs.Table.{row_of, place_at}

-- rows that differ in where threads are, and in nothing else
pub record SameButPlaces (rows rows' : List ThreadRow) : Type 0 where
  pub count : length rows' ≡ length rows
  pub kept : (t : ℕ) → (row_of rows' t ≡ row_of rows t) ⊎ ((to : Option ℕ) × (row_of rows' t ≡ option_map (λ row. row_placed row to) (row_of rows t)))

-- rows in which whoever was on one of the first n CPUs was taken off, and nothing else changed
pub record IsClearedBelow (n : ℕ) (rows rows' : List ThreadRow) : Type 0 where
  pub same : SameButPlaces rows rows'
  pub left : (t c : ℕ) → place_at rows' t ≡ Some c → (n ≤ c) × (place_at rows t ≡ Some c)
