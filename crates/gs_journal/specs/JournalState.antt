-- What a journal is to its callers.
use Rattle.std.specs.Prelude.{ℕ, List}
use Rattle.gs_journal.specs.declared.entry.Entry.{Entry}

-- all that happened, how many entries there may ever be, and the number that sequence numbers begin above. The room is how many more entries may be
-- appended: memory is reserved for them, and they are within the limit
pub record JournalState : Type 0 where
  pub entries : List Entry
  pub limit : ℕ
  pub first_tseq : ℕ
  pub room : ℕ
