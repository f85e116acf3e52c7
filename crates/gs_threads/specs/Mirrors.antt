-- A table that says of each thread what the history says.
use Rattle.std.specs.Prelude.{Bool, true, false, ℕ, ◌+◌, ◌≡◌, ◌↔◌, None, Some, IsSome, List, [], length}
use Rattle.gs_layout.specs.declared.message.Message.{Message}
use Rattle.gs_layout.specs.declared.message.Message.TheVariants.{Thread, TimerTick}
use Rattle.gs_layout.specs.Message.{is_creation}
use Rattle.gs_journal.specs.declared.entry.Entry.{Entry}
use Rattle.gs_journal.specs.declared.entry.Entry.TheVariants.{Role, Begin, Left, Taken, Given}
use Rattle.gs_journal.specs.History.{History, messages, created, seq, record_in, on}
use Rattle.gs_threads.specs.declared.row.ThreadRow.{ThreadRow}
use Rattle.gs_threads.specs.Table.{row_of, record_at, number_at, place_at}

-- there are as many rows as creations, and a row exactly for each thread that has messages. A thread's record and sequence number are the history's,
-- and it is on a CPU exactly if the history says so
pub record Mirrors (first : ℕ) (h : History) (rows : List ThreadRow) : Type 0 where
  pub count : length rows ≡ length (created h)
  pub absent : (t : ℕ) → (row_of rows t ≡ None) ↔ (messages h t ≡ [])
  pub same_record : (t : ℕ) → record_at rows t ≡ record_in h t
  pub same_number : (t : ℕ) → number_at rows t ≡ seq first h t
  pub same_place : (t c : ℕ) → (place_at rows t ≡ Some c) ↔ (on h c ≡ Some t)

-- a message that may come next: a tick, or one about a thread that has a row, no second creation, with the number after the thread's
abbrev pub IsNext : ℕ → History → List ThreadRow → Message → Type 0
IsNext first h rows (TimerTick c) = Unit {0}
IsNext first h rows (Thread t s c) = IsSome (row_of rows t) × (is_creation (Thread t s c) ≡ false) × (s ≡ seq first h t + 1)

-- an entry that concerns no thread
abbrev pub is_quiet : Entry → Bool
is_quiet (Role g c) = true
is_quiet (Begin g) = true
is_quiet Left = true
is_quiet (Taken c) = true
is_quiet (Given c) = true
is_quiet _ = false
