-- What the last entry of a journal is to the callers that it is lent to.
use Rattle.std.specs.Prelude.{◌-◌, length, slice_get, unwrap_or}
use Rattle.gs_journal.specs.declared.entry.Entry.{Entry}
use Rattle.gs_journal.specs.declared.entry.Entry.TheVariants.{Torn}
use Rattle.gs_journal.specs.declared.last.LastEntry.{LastEntry}

-- the entry that is lent
abbrev pub entry_lent : LastEntry → Entry
entry_lent last = unwrap_or (slice_get last.journal.now.entries (length last.journal.now.entries - 1)) Torn
