-- What stands in the bytes of a page, and what is wrong with them.
use Rattle.std.specs.Prelude.{◌≡◌, Bool, true, not, ◌==◌, ◌&&◌, ◌||◌, nat_lt, nat_le, ℕ, zero, suc, ◌+◌, ◌*◌, Option, None, Some, Result, Ok, Err, List, [], ◌∷◌, length, map, take, drop, slice_index, if◌then◌else◌}
use Rattle.std.specs.List.{list_any, AllByRecursion}
use Rattle.gs_dump.specs.declared.wire.TheConstants.{CLASS_AT, COUNT_AT, CPU_AT, FLAGS_AT, HEADER_LEN, LAST_AT, MASK_AT, NAME_LEN_AT, NEXT_AT, TID_AT, TSEQ_AT, VERSION_AT, VERSION_LEN}
use Rattle.gs_layout.specs.declared.name.TheConstants.{MOST_NAME_LEN}
use Rattle.gs_layout.specs.declared.cpu.TheConstants.{NO_CPU}
use Rattle.gs_status.specs.declared.mask.TheConstants.{MOST_CPUS}
use Rattle.gs_status.specs.Masks.{has}
use Rattle.gs_layout.specs.Name.{is_name}
use Rattle.gs_layout.specs.Reading.{are_zeros, class_numbered, cpu_numbered, number_at}
use Rattle.gs_layout.specs.Spelling.{are_numbers, is_tid}
use Rattle.gs_dump.specs.declared.fault.PageFault.{PageFault}
use Rattle.gs_dump.specs.declared.fault.PageFault.TheVariants as faults
use Rattle.gs_dump.specs.declared.record.DumpRecord.{DumpRecord}
use Rattle.gs_dump.specs.declared.version.Version.{Version}
use Rattle.gs_dump.specs.declared.version.Version.TheVariants.{Two}
use Rattle.gs_dump.specs.Version.{mask_len, name_at, record_len, version_number, version_numbered}
use Rattle.gs_dump.specs.Record.{FitsIn}
use Rattle.gs_dump.specs.Page.{Contents, IsPage, rises, spelling_in}

-- the numbers of a record, by the bytes that tell it
abbrev pub version_in : List ℕ → ℕ
version_in text = number_at VERSION_AT 2 text

abbrev pub tid_in : List ℕ → ℕ
tid_in text = number_at TID_AT 4 text

abbrev pub tseq_in : List ℕ → ℕ
tseq_in text = number_at TSEQ_AT 4 text

abbrev pub cpu_number_in : List ℕ → ℕ
cpu_number_in text = number_at CPU_AT 2 text

abbrev pub flags_in : List ℕ → ℕ
flags_in text = number_at FLAGS_AT 2 text

abbrev pub mask_in : Version → List ℕ → ℕ
mask_in v text = number_at MASK_AT (mask_len v) text

abbrev pub name_len_in : List ℕ → ℕ
name_len_in text = slice_index text NAME_LEN_AT

abbrev pub name_in : Version → List ℕ → List ℕ
name_in v text = take (name_len_in text) (drop (name_at v) text)

-- the record that the fields name
abbrev pub record_in : Version → List ℕ → DumpRecord
record_in v text = record {
  tid = tid_in text;
  known = record {
    facts = record {
      runnable = flags_in text == 1;
      mask = mask_in v text;
      class = class_numbered (slice_index text CLASS_AT);
      name = name_in v text;
    };
    tseq = tseq_in text;
  };
  cpu = cpu_numbered (cpu_number_in text);
}

abbrev pub numbers_fit : List ℕ → Bool
numbers_fit text = are_numbers (tid_in text) (tseq_in text)

-- the class is 0 or 1, of the flags bit 0 alone may be set, and the mask is not empty
abbrev pub facts_fit : Version → List ℕ → Bool
facts_fit v text = nat_lt (slice_index text CLASS_AT) 2 && nat_lt (flags_in text) 2 && not (mask_in v text == 0)

-- 0 to 16 bytes that may stand in a name, and zeros behind them
abbrev pub name_fits : Version → List ℕ → Bool
name_fits v text = nat_le (name_len_in text) MOST_NAME_LEN && is_name (name_in v text) && are_zeros (drop (name_at v + name_len_in text) text)

-- 65,535 stands for no CPU; a thread on a CPU is runnable, and the CPU is in its mask. A mask of the first version has no CPU from 64 on
abbrev pub cpu_fits : Version → List ℕ → Bool
cpu_fits v text = cpu_number_in text == NO_CPU || (nat_lt (cpu_number_in text) MOST_CPUS && flags_in text == 1 && has (mask_in v text) (cpu_number_in text))

-- whether each field of a record is in its range
abbrev pub record_fits : Version → List ℕ → Bool
record_fits v text = numbers_fit text && facts_fit v text && name_fits v text && cpu_fits v text

abbrev pub is_other_version : Version → List ℕ → Bool
is_other_version v text = not (version_in text == version_number v)

abbrev pub is_bad : Version → List ℕ → Bool
is_bad v text = not (record_fits v text)

-- the record that its bytes tell, or what is wrong with them by themselves
abbrev pub record_read : Version → List ℕ → Result DumpRecord PageFault
record_read v text = if is_other_version v text then Err faults.BadVersion else if is_bad v text then Err faults.BadField else Ok (record_in v text)

-- the bytes of each record
unfoldable pub texts : Version → ℕ → List ℕ → List (List ℕ)
texts v zero bytes = []
texts v (suc n) bytes = take (record_len v) bytes ∷ texts v n (drop (record_len v) bytes)

-- how many records the header names
abbrev pub count_in : List ℕ → ℕ
count_in bytes = number_at COUNT_AT 2 bytes

-- how many bytes the page then has
abbrev pub size_in : Version → List ℕ → ℕ
size_in v bytes = HEADER_LEN + record_len v * count_in bytes

-- the version of the page: that of its first record, and the second if it has none
abbrev pub version_of : List ℕ → Option Version
version_of bytes = if count_in bytes == 0 then Some Two else version_numbered (number_at HEADER_LEN 2 bytes)

abbrev pub end_in : List ℕ → ℕ
end_in bytes = number_at LAST_AT 2 bytes

abbrev pub next_number_in : List ℕ → ℕ
next_number_in bytes = number_at NEXT_AT 4 bytes

abbrev pub next_in : List ℕ → Option ℕ
next_in bytes = if end_in bytes == 1 then None else Some (next_number_in bytes)

-- the last page names no next thread, and every other page names one
abbrev pub end_fits : List ℕ → Bool
end_fits bytes = (end_in bytes == 1 && next_number_in bytes == 0) || (end_in bytes == 0 && is_tid (next_number_in bytes))

abbrev pub texts_in : Version → List ℕ → List (List ℕ)
texts_in v bytes = texts v (count_in bytes) (drop HEADER_LEN bytes)

-- the page that the bytes name
abbrev pub page_in : Version → List ℕ → Contents
page_in v bytes = record { records = map (record_in v) (texts_in v bytes); next = next_in bytes }

-- too few for the header, or for a first record's version
abbrev pub is_headless : List ℕ → Bool
is_headless bytes = nat_lt (length bytes) HEADER_LEN || (not (count_in bytes == 0) && nat_lt (length bytes) (HEADER_LEN + VERSION_LEN))

-- the first fault of records of a version, over all of them. The Bools say whether all before them fits and whether the tids before them increase.
-- The numbers say which tid was the last of these and where the next page begins
abbrev pub field_fault : Version → Bool → Bool → ℕ → Option ℕ → List (List ℕ) → Option PageFault
field_fault v fit rise last next ts =
    if list_any (is_other_version v) ts then Some faults.BadVersion else if not fit || list_any (is_bad v) ts then Some faults.BadField else if not (rise && rises last (map (record_in v) ts) next) then Some faults.BadOrder else None

-- the first fault of bytes that have a header and a version, apart from `OutOfMemory`
abbrev pub sized_fault : Version → List ℕ → Option PageFault
sized_fault v bytes =
    if nat_lt (length bytes) (size_in v bytes) then Some faults.Short else if nat_lt (size_in v bytes) (length bytes) then Some faults.Trailing else field_fault v (end_fits bytes) true 0 (next_in bytes) (texts_in v bytes)

abbrev pub fault_of : Option Version → List ℕ → Option PageFault
fault_of None bytes = Some faults.BadVersion
fault_of (Some v) bytes = sized_fault v bytes

-- the first fault of the bytes, apart from `OutOfMemory`
abbrev pub page_fault : List ℕ → Option PageFault
page_fault bytes = if is_headless bytes then Some faults.Short else fault_of (version_of bytes) bytes

-- the bytes are the spelling of this page in some version
pub record IsSpelled (bytes : List ℕ) (p : Contents) : Type 0 where
  pub page : IsPage p
  pub version : Version
  pub fits : AllByRecursion (FitsIn version) p.records
  pub whole : bytes ≡ spelling_in version p

-- when each fault is returned: it is the first that applies, and out of memory only if the bytes are a page
abbrev pub IsFault : List ℕ → PageFault → Type 0
IsFault bytes faults.OutOfMemory = (p : Contents) × IsSpelled bytes p
IsFault bytes f = page_fault bytes ≡ Some f

-- what is read is that page, unless it is out of memory
abbrev pub ReadsAs : Result Contents PageFault → Contents → Type 0
ReadsAs (Ok q) p = q ≡ p
ReadsAs (Err f) p = f ≡ faults.OutOfMemory
