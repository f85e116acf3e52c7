-- What a table of threads is to its callers, and what each call makes of it.
use Rattle.std.specs.Prelude.{ℕ, zero, suc, Option, None, Some, List, [], ◌∷◌, slice_get}
use Rattle.std.specs.Option.{option_map_or}
use Rattle.gs_layout.specs.declared.message.Message.{Message}
use Rattle.gs_layout.specs.declared.message.Message.TheVariants.{Thread, TimerTick}
use Rattle.gs_layout.specs.declared.record.Record.{Record}
use Rattle.gs_layout.specs.declared.record.Record.TheVariants.{Absent}
use Rattle.gs_threads.specs.declared.row.ThreadRow.{ThreadRow}
use Rattle.gs_threads.specs.Rows.{row_after, row_placed}

-- the rows of the threads 1, 2 and so on, the number that sequence numbers begin above, and how many more rows may be added with no more memory
pub record TableState : Type 0 where
  pub rows : List ThreadRow
  pub first_tseq : ℕ
  pub room : ℕ

-- the row of a thread, if it ever was; there is no thread 0
unfoldable pub row_of : List ThreadRow → ℕ → Option ThreadRow
row_of rows zero = None
row_of rows (suc n) = slice_get rows n

-- the rows with one of them changed, that of place n
abbrev pub with_changed : List ThreadRow → ℕ → (ThreadRow → ThreadRow) → List ThreadRow
with_changed [] n f = []
with_changed (row ∷ rows) zero f = f row ∷ rows
with_changed (row ∷ rows) (suc n) f = row ∷ with_changed rows n f

-- the rows with that of a thread changed, and no other; all as they are if the thread never was
unfoldable pub change_row : List ThreadRow → ℕ → (ThreadRow → ThreadRow) → List ThreadRow
change_row rows zero f = rows
change_row rows (suc n) f = with_changed rows n f

-- after a message: only the row of its thread changes
unfoldable pub rows_after : List ThreadRow → Message → List ThreadRow
rows_after rows (TimerTick c) = rows
rows_after rows (Thread t s c) = change_row rows t (λ row. row_after row (Thread t s c))

-- with a thread on a CPU, or off
unfoldable pub rows_placed : List ThreadRow → ℕ → Option ℕ → List ThreadRow
rows_placed rows t cpu = change_row rows t (λ row. row_placed row cpu)

-- what the table says of a thread: its record, its sequence number, and the CPU that it is on
unfoldable pub record_at : List ThreadRow → ℕ → Record
record_at rows t = option_map_or (λ (row : ThreadRow). row.record) (row_of rows t) Absent

unfoldable pub number_at : List ThreadRow → ℕ → ℕ
number_at rows t = option_map_or (λ (row : ThreadRow). row.tseq) (row_of rows t) 0

abbrev pub cpu_of : Option ThreadRow → Option ℕ
cpu_of None = None
cpu_of (Some row) = row.cpu

unfoldable pub place_at : List ThreadRow → ℕ → Option ℕ
place_at rows t = cpu_of (row_of rows t)
