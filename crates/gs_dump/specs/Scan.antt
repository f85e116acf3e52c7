-- What the pass over the records returns.
use Rattle.std.specs.Prelude.{◌≡◌, ℕ, Option, None, Some, Result, Ok, Err, List, map}
use Rattle.std.specs.Global.{Vec}
use Rattle.gs_dump.specs.declared.fault.PageFault.{PageFault}
use Rattle.gs_dump.specs.declared.fault.PageFault.TheVariants as faults
use Rattle.gs_dump.specs.declared.record.DumpRecord.{DumpRecord}
use Rattle.gs_dump.specs.declared.version.Version.{Version}
use Rattle.gs_dump.specs.Reading.{record_in}

-- the first fault is this one; it is out of memory only if there is no other
abbrev pub Faults : PageFault → Option PageFault → Type 0
Faults faults.OutOfMemory o = o ≡ None
Faults f o = o ≡ Some f

-- the first fault, or the records that the bytes tell
abbrev pub Scanned : Version → Result (Vec DumpRecord) PageFault → Option PageFault → List (List ℕ) → Type 0
Scanned version (Ok v) o ts = (o ≡ None) × (v.items ≡ map (record_in version) ts)
Scanned version (Err f) o ts = Faults f o
