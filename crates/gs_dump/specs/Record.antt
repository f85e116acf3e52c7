-- What the kernel knows of a live thread, and the bytes that tell it. All numbers are little-endian, and every byte that no field names is zero.
use Rattle.std.specs.Prelude.{◌≡◌, true, ℕ, ◌^◌, ◌<◌, List, [], ◌∷◌, ◌++◌, length, IfSome, if◌then◌else◌}
use Rattle.byteorder.specs.Endian.{little_bytes}
use Rattle.gs_status.specs.Masks.{has}
use Rattle.gs_layout.specs.Class.{class_number}
use Rattle.gs_layout.specs.Name.{is_name, name_field}
use Rattle.gs_layout.specs.Spelling.{AreNumbers, IsCpuOrNone, IsMask, cpu_number}
use Rattle.gs_dump.specs.declared.record.DumpRecord.{DumpRecord}
use Rattle.gs_dump.specs.declared.version.Version.{Version}
use Rattle.gs_dump.specs.Version.{mask_len, version_number}

-- the ranges of a record: a thread on a CPU is runnable, and the CPU is in its mask
pub record IsLive (r : DumpRecord) : Type 0 where
  pub numbers : AreNumbers r.tid r.known.tseq
  pub mask : IsMask r.known.facts.mask
  pub name : is_name r.known.facts.name ≡ true
  pub cpu : IsCpuOrNone r.cpu
  pub runs : IfSome r.cpu (λ c. (r.known.facts.runnable ≡ true) × (has r.known.facts.mask c ≡ true))

-- the version, class, the name's length, tid, sequence number, CPU, and the flags. Bit 0 of these says that the thread is runnable
abbrev pub front_bytes : Version → DumpRecord → List ℕ
front_bytes v r =
    little_bytes 2 (version_number v) ++ (class_number r.known.facts.class ∷ length r.known.facts.name ∷ []) ++ little_bytes 4 r.tid ++ little_bytes 4 r.known.tseq ++ little_bytes 2 (cpu_number r.cpu) ++ little_bytes 2 (if r.known.facts.runnable then 1 else 0)

-- whether a version can spell a record: its mask has no more bytes than the version gives it
abbrev pub FitsIn : Version → DumpRecord → Type 0
FitsIn v r = r.known.facts.mask < 256 ^ mask_len v

-- the bytes of a record in a version
abbrev pub record_spelling : Version → DumpRecord → List ℕ
record_spelling v r = front_bytes v r ++ little_bytes (mask_len v) r.known.facts.mask ++ name_field r.known.facts.name
