-- Pages of the live threads, and their bytes.
use Rattle.std.specs.Prelude.{◌≡◌, Bool, true, ℕ, ◌^◌, ◌<◌, ◌≤◌, ◌&&◌, nat_lt, Option, None, Some, List, [], ◌∷◌, ◌++◌, length, IfSome, unwrap_or}
use Rattle.std.specs.List.{flat_map, AllByRecursion}
use Rattle.byteorder.specs.Endian.{little_bytes}
use Rattle.gs_layout.specs.declared.message.TheConstants.{MOST_TIDS}
use Rattle.gs_dump.specs.declared.record.DumpRecord.{DumpRecord}
use Rattle.gs_dump.specs.declared.version.Version.{Version}
use Rattle.gs_dump.specs.declared.version.Version.TheVariants.{Two}
use Rattle.gs_dump.specs.Record.{IsLive, record_spelling}

-- what a page tells: its threads, and the first live thread that it does not tell of (none on the last page)
pub record Contents : Type 0 where
  pub records : List DumpRecord
  pub next : Option ℕ

-- whether the tids increase, from above a number on, and the next page begins above them
abbrev pub rises : ℕ → List DumpRecord → Option ℕ → Bool
rises last [] None = true
rises last [] (Some next) = nat_lt last next
rises last (r ∷ rs) next = nat_lt last r.tid && rises r.tid rs next

-- which pages can be spelled
pub record IsPage (p : Contents) : Type 0 where
  pub count : length p.records < 2 ^ 16
  pub live : AllByRecursion IsLive p.records
  pub tid : IfSome p.next (λ t. (1 ≤ t) × (t ≤ MOST_TIDS))
  pub order : rises 0 p.records p.next ≡ true

-- 1 on the last page
abbrev pub end_number : Option ℕ → ℕ
end_number None = 1
end_number (Some next) = 0

-- the first 8 bytes: how many records there are, whether the page is the last, and where the next one begins
abbrev pub header_of : ℕ → Option ℕ → List ℕ
header_of count next = little_bytes 2 count ++ little_bytes 2 (end_number next) ++ little_bytes 4 (unwrap_or next 0)

abbrev pub header_bytes : Contents → List ℕ
header_bytes p = header_of (length p.records) p.next

-- the list of bytes that a version of the layout gives a page
abbrev pub spelling_in : Version → Contents → List ℕ
spelling_in v p = header_bytes p ++ flat_map (record_spelling v) p.records

-- the one that is written
abbrev pub page_spelling : Contents → List ℕ
page_spelling p = spelling_in Two p
