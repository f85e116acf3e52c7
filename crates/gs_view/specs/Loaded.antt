-- What a page makes of what is known.
use Rattle.std.specs.Prelude.{◌≡◌, ◌==◌, ◌<◌, ◌≤◌, ℕ, Option, None, Some, List, [], ◌∷◌, length, slice_get, if◌then◌else◌}
use Rattle.gs_layout.specs.declared.known.Known.{Known}
use Rattle.gs_layout.specs.View.{Look}
use Rattle.gs_dump.specs.declared.record.DumpRecord.{DumpRecord}
use Rattle.gs_view.specs.Records.{RecordsState, with_known}

-- one of two, the first if there is one
abbrev pub or_known : Option Known → Option Known → Option Known
or_known None o = o
or_known (Some k) o = Some k

-- what records say of a thread: what the last one says that is of it, or nothing
abbrev pub told_of : List DumpRecord → ℕ → Option Known
told_of [] t = None
told_of (r ∷ rs) t = or_known (told_of rs t) (if r.tid == t then Some r.known else None)

-- what is known once records were loaded: of each of their threads what they say, whatever was known before; of all others what was known
abbrev pub loaded : List DumpRecord → Look → Look
loaded rs v = λ t. or_known (told_of rs t) (v t)

-- what is known once a record was set: of its thread what it says, of all others what was known
abbrev pub with_record : DumpRecord → Look → Look
with_record r v = with_known r.tid (Some r.known) v

-- there is room for these records: a place for the tid of each, and as many free
pub record HasRoomFor (rs : List DumpRecord) (v : RecordsState) : Type 0 where
  pub places : (i : ℕ) (r : DumpRecord) → slice_get rs i ≡ Some r → r.tid < v.tids
  pub room : length rs ≤ v.room
