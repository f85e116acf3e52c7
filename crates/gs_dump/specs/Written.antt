-- Pages as bytes, in the second version of the layout.
use Rattle.std.specs.Prelude.{◌≡◌, ◌≤◌, ℕ, ◌/◌, List, [], ◌∷◌, length, map, drop}
use Rattle.std.specs.List.{flat_map, AllByRecursion}
use Rattle.gs_dump.specs.declared.record.DumpRecord.{DumpRecord}
use Rattle.gs_dump.specs.declared.version.Version.TheVariants.{Two}
use Rattle.gs_dump.specs.declared.wire.TheConstants.{HEADER_LEN}
use Rattle.gs_dump.specs.Version.{record_len}
use Rattle.gs_dump.specs.Record.{IsLive, record_spelling}
use Rattle.gs_dump.specs.Page.{Contents, IsPage, page_spelling}
use Rattle.gs_dump.specs.Reading.{next_in, record_in, texts}

-- the records that bytes tell, one behind the other
unfoldable pub records_in : List ℕ → List DumpRecord
records_in bytes = map (record_in Two) (texts Two (length bytes / record_len Two) bytes)

-- the bytes of records, one behind the other
abbrev pub records_spelling : List DumpRecord → List ℕ
records_spelling rs = flat_map (record_spelling Two) rs

-- the bytes are the spellings of the records that they tell, each in its ranges
pub record AreSpelled (bytes : List ℕ) : Type 0 where
  pub live : AllByRecursion IsLive (records_in bytes)
  pub whole : bytes ≡ records_spelling (records_in bytes)

-- the tid of the last record, or a number if there is none
abbrev pub last_from : ℕ → List DumpRecord → ℕ
last_from t [] = t
last_from t (r ∷ rs) = last_from r.tid rs

-- the page that bytes tell
abbrev pub contents_in : List ℕ → Contents
contents_in bytes = record { records = records_in (drop HEADER_LEN bytes); next = next_in bytes }

-- the bytes are the spelling of the page that they tell, and this is its last thread, 0 if it tells of none
pub record IsWritten (bytes : List ℕ) (last : ℕ) : Type 0 where
  pub page : IsPage (contents_in bytes)
  pub whole : bytes ≡ page_spelling (contents_in bytes)
  pub ends : last ≡ last_from 0 (contents_in bytes).records

-- the bytes of a page that is being written: room for its header, and the spellings of the records so far
pub record IsBegun (bytes : List ℕ) (count last : ℕ) : Type 0 where
  pub head : HEADER_LEN ≤ length bytes
  pub records : AreSpelled (drop HEADER_LEN bytes)
  pub counted : count ≡ length (records_in (drop HEADER_LEN bytes))
  pub ends : last ≡ last_from 0 (records_in (drop HEADER_LEN bytes))
