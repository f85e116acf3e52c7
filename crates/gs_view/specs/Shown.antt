-- What a view shows of its records.
use Rattle.std.specs.Prelude.{Bool, ℕ, Option, None, List, is_some, nat_le, option_map, if◌then◌else◌}
use Rattle.std.specs.Map.{keys_of}
use denote.Ref.{Bor}
use Rattle.gs_layout.specs.declared.facts.Facts.{Facts}
use Rattle.gs_layout.specs.declared.known.Known.{Known}
use Rattle.gs_layout.specs.View.{Look, look_up}
use Rattle.gs_view.specs.Listed.{listed}
use Rattle.gs_view.specs.Records.{RecordsState}

-- what is known of a thread: the facts that a reference points to, at a number
abbrev pub known_shown : Bor Facts × ℕ → Known
known_shown p = record { facts = p.0.now; tseq = p.1 }

-- the same, if there is something
abbrev pub if_shown : Option (Bor Facts × ℕ) → Option Known
if_shown o = option_map known_shown o

-- a record, of a tid, the facts that a reference points to, and a number
abbrev pub record_shown : ℕ × Bor Facts × ℕ → ℕ × Known
record_shown p = (p.0, known_shown (p.1, p.2))

-- the tids of records, in order
abbrev pub tids : List (ℕ × Known) → List ℕ
tids records = keys_of records

-- whether something is known of a thread
abbrev pub is_known : RecordsState → ℕ → Bool
is_known records t = is_some (look_up records.entries t)

-- what is known of each thread from a tid on
abbrev pub known_from : ℕ → RecordsState → Look
known_from from records = λ t. if nat_le from t then look_up records.entries t else None

-- what a walk has still to show that has come to a tid
abbrev pub shown_from : ℕ → RecordsState → List (ℕ × Known)
shown_from from records = listed (known_from from records) 0 records.tids
