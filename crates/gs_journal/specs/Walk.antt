-- What one more entry makes of what a query returns, for a walk over the journal.
use Rattle.std.specs.Prelude.{Bool, false, ℕ, if◌then◌else◌}
use Rattle.gs_layout.specs.declared.record.Record.{Record}
use Rattle.gs_layout.specs.Message.{is_about}
use Rattle.gs_layout.specs.Record.{after}
use Rattle.gs_journal.specs.declared.entry.Entry.{Entry}
use Rattle.gs_journal.specs.declared.entry.Entry.TheVariants.{Posted}

-- a thread's record after one more entry
abbrev pub record_then : ℕ → Record → Entry → Record
record_then t r (Posted m) = if is_about t m then after r m else r
record_then t r _ = r

-- whether an entry is a message about a thread
abbrev pub posts_about : ℕ → Entry → Bool
posts_about t (Posted m) = is_about t m
posts_about t _ = false
