-- The live threads of a table, in increasing order of tid.
use Rattle.std.specs.Prelude.{Bool, false, ◌&&◌, ℕ, ◌≡◌, ◌-◌, ◌*◌, ◌≤◌, length, nat_le, Option, None, Some, List, if◌then◌else◌}
use Rattle.std.specs.List.{filter, enumerate_from}
use denote.Ref.{Bor}
use Rattle.gs_threads.specs.declared.row.ThreadRow.{ThreadRow}
use Rattle.gs_threads.specs.Rows.{is_live}
use Rattle.gs_threads.specs.Table.{row_of}
use Rattle.gs_sets.specs.Bits.{is_in}
use Rattle.gs_sets.specs.declared.bits.TheConstants.{WORD}

abbrev pub is_live_row : ℕ × ThreadRow → Bool
is_live_row p = is_live p.1.record

-- each thread that lives, with its row, from a tid on: the rows are those of the threads 1, 2 and so on
unfoldable pub live_from : List ThreadRow → ℕ → List (ℕ × ThreadRow)
live_from rows t = filter (λ p. nat_le t p.0 && is_live_row p) (enumerate_from 1 rows)

-- a thread with its row, if it lives and is not before a tid
abbrev pub live_one : ℕ → ℕ → Option ThreadRow → Option (ℕ × ThreadRow)
live_one from t None = None
live_one from t (Some row) = if nat_le from t && is_live row.record then Some (t, row) else None

-- whether a row is there, and its thread lives
abbrev pub row_lives : Option ThreadRow → Bool
row_lives None = false
row_lives (Some row) = is_live row.record

-- whether a thread lives
unfoldable pub lives : List ThreadRow → ℕ → Bool
lives rows t = row_lives (row_of rows t)

-- the tids in the set are those of the threads that live
abbrev pub IsLiveSet : List ℕ → List ThreadRow → Type 0
IsLiveSet set rows = (t : ℕ) → is_in set t ≡ lives rows t

-- the set has room for each tid of the rows, and those are in it that live
pub record IsOfRows (set : List ℕ) (rows : List ThreadRow) : Type 0 where
  pub live : IsLiveSet set rows
  pub room : length rows ≤ WORD * length set - 1

-- a thread's tid and the row that a reference points to
abbrev pub shown : ℕ × Bor ThreadRow → ℕ × ThreadRow
shown p = (p.0, p.1.now)
