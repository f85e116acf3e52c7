-- Histories that differ and show the same lines: why an entry is to be legible.
use Rattle.std.proofs.Common.{◌≡◌, ℕ, ◌*◌, ◌^◌, List, [], ◌∷◌, ◌++◌, codes, refl, true}
use Rattle.std.specs.Fmt.{digits}
use Rattle.gs_layout.specs.declared.facts.Class.TheVariants.{Zero}
use Rattle.gs_layout.specs.declared.message.Change.TheVariants.{Created}
use Rattle.gs_layout.specs.declared.message.Message.TheVariants.{Thread}
use Rattle.gs_journal.specs.declared.entry.Entry.{Entry}
use Rattle.gs_journal.specs.declared.entry.Entry.TheVariants.{Posted, Left, Taken}
use Rattle.gs_history.specs.Journal.{journal_lines}

created : List ℕ → Entry
created name = Posted (Thread 1 1 (Created (record { runnable = true; mask = 3; class = Zero; name = name })))

-- `-` stands for the empty name
dash : journal_lines (created (codes "-") ∷ []) ≡ journal_lines (created [] ∷ [])
unfolding created
dash = refl

-- a newline in a name ends the line, and what follows is read as the next one
two_lines : journal_lines (created (codes "web" ++ 10 ∷ codes "1 left") ∷ []) ≡ journal_lines (created (codes "web") ∷ Left ∷ [])
unfolding created digits
two_lines = refl

-- of a number of more than 64 digits the last 64 are written
long_number : journal_lines (Taken (10 ^ 64) ∷ []) ≡ journal_lines (Taken (2 * 10 ^ 64) ∷ [])
unfolding digits
long_number = refl
